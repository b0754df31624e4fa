use Rattle.std.proofs.Common.{◌≡◌, length}
use Rattle.std.specs.Prelude.{is_some}
use Rattle.base_json.specs.Items.{to_come}
use Rattle.cedar_conform_diagnostics.proofs.entries.after_objects.Given as goal

-- what was skipped were items
abbrev pub invariant-rest : goal.invariant-rest
invariant-rest l = is_some (to_come l.initial.objects) ≡ is_some (to_come l.objects)

abbrev pub decreases-rest : goal.decreases-rest
decreases-rest l = length l.objects
