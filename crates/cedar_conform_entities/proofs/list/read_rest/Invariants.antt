use Rattle.std.proofs.Common.{length, Option}
use Rattle.serde_json.specs.Data.{Items}
use Rattle.cedar_conform_entities.specs.Private.Coming.{ComingProgress}
use Rattle.base_json.specs.Items.{to_come}
use Rattle.cedar_value.specs.World.{World}
use Rattle.cedar_conform_entities.proofs.list.read_rest.Given as goal

-- what was read, before what is to come, is all, whatever had been read before
abbrev pub invariant-walk : goal.invariant-walk
invariant-walk l =
    (first : World) (all : Option Items) → ComingProgress l.schema first all (to_come l.initial.items) l.initial.entities.items l.initial.repeated → ComingProgress l.schema first all (to_come l.items) l.entities.items l.repeated

abbrev pub decreases-walk : goal.decreases-walk
decreases-walk l = length l.items
