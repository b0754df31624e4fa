use Rattle.std.proofs.Common.{◌≡◌, false, take}
use Rattle.cedar_store.specs.Private.Kept.{has_ahead}
use Rattle.cedar_store.proofs.ahead.is_number_ahead.Given as goal

abbrev pub invariant-loop-at : goal.invariant-loop-at
invariant-loop-at l = has_ahead l.rows (take l.at-index l.near) l.number ≡ false
