use Rattle.std.proofs.Common.{length}
use Rattle.base_json.specs.Items.{to_come}
use Rattle.cedar_conform_diagnostics.specs.Private.Passing.{IsPassed}
use Rattle.cedar_conform_diagnostics.proofs.entries.first_of_objects.Given as goal

-- what was looked at, before what is to come, is all
abbrev pub invariant-walk : goal.invariant-walk
invariant-walk l = IsPassed l.schema (to_come l.initial.objects) (to_come l.objects) l.position

abbrev pub decreases-walk : goal.decreases-walk
decreases-walk l = length l.objects
