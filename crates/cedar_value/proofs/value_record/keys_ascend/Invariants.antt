use Rattle.std.proofs.Common.{◌↔◌, ◌∷◌, length}
use Rattle.cedar_value.specs.Order.{AreKeysAscending}
use Rattle.cedar_value.proofs.value_record.keys_ascend.Given as goal

abbrev pub invariant-walk : goal.invariant-walk
invariant-walk l = AreKeysAscending l.fn.pairs ↔ AreKeysAscending (l.last ∷ l.later)

abbrev pub decreases-walk : goal.decreases-walk
decreases-walk l = length l.later
