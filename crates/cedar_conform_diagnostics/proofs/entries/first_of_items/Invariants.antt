use Rattle.std.proofs.Common.{length, Option}
use Rattle.serde_json.specs.Data.{Items}
use Rattle.base_json.specs.Items.{to_come}
use Rattle.cedar_conform_diagnostics.specs.Private.Passing.{IsPassed}
use Rattle.cedar_conform_diagnostics.proofs.entries.first_of_items.Given as goal

-- what was looked at, before what is to come, is all, whatever had been looked at before
abbrev pub invariant-walk : goal.invariant-walk
invariant-walk l = (all : Option Items) → IsPassed l.schema all (to_come l.initial.items) l.initial.position → IsPassed l.schema all (to_come l.items) l.position

abbrev pub decreases-walk : goal.decreases-walk
decreases-walk l = length l.items
