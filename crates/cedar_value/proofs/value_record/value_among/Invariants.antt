use Rattle.std.proofs.Common.{◌≡◌, length}
use Rattle.cedar_value.specs.Records.{value_at}
use Rattle.cedar_value.proofs.value_record.value_among.Given as goal

abbrev pub invariant-walk : goal.invariant-walk
invariant-walk l = value_at l.key l.fn.pairs ≡ value_at l.key l.left

abbrev pub decreases-walk : goal.decreases-walk
decreases-walk l = length l.left
