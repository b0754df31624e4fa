use Rattle.std.proofs.Common.{◌≡◌, ℕ, take}
use Rattle.base_bits.specs.Bits.{has_bit}
use Rattle.cedar_store.specs.Private.Kept.{has_ahead}
use Rattle.cedar_store.proofs.ahead.row_ahead.Given as goal

abbrev pub invariant-loop-at : goal.invariant-loop-at
invariant-loop-at l = (m : ℕ) → has_bit l.ahead m ≡ has_ahead l.rows (take l.at-index l.near) m
