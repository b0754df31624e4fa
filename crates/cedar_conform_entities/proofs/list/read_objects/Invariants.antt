use Rattle.std.proofs.Common.{length}
use Rattle.cedar_conform_entities.specs.Private.Coming.{ComingProgress}
use Rattle.base_json.specs.Lists.{left_in}
use Rattle.cedar_conform_entities.proofs.list.read_objects.Given as goal

-- what was read, before what is to come, is all
abbrev pub invariant-walk : goal.invariant-walk
invariant-walk l = ComingProgress l.schema l.fn.first.items (left_in l.initial.list) (left_in l.list) l.entities.items l.repeated

abbrev pub decreases-walk : goal.decreases-walk
decreases-walk l = length l.list
