use Rattle.std.proofs.Common.{ℕ, IsTrue, take}
use Rattle.base_bits.specs.Bits.{has_bit}
use Rattle.cedar_store.specs.Private.Kept.{has_ahead}
use Rattle.cedar_store.proofs.ahead.is_mark_ahead.Given as goal

abbrev pub invariant-loop-at : goal.invariant-loop-at
invariant-loop-at l = (m : ℕ) → IsTrue (has_ahead l.rows (take l.at-index l.near) m) → ¬ IsTrue (has_bit l.marks m)
