use Rattle.std.proofs.Common.{◌≡◌, length}
use Rattle.std.specs.Prelude.{is_some}
use Rattle.base_json.specs.Items.{to_come}
use Rattle.base_json.proofs.items.ItemReader.skip_rest.Given as goal

-- what was skipped were items
abbrev pub invariant-rest : goal.invariant-rest
invariant-rest l = is_some (to_come l.initial.self) ≡ is_some (to_come l.self)

abbrev pub decreases-rest : goal.decreases-rest
decreases-rest l = length l.self
