use Rattle.std.proofs.Common.{◌≡◌, false, take}
use Rattle.std.specs.List.{list_any}
use Rattle.cedar_store.specs.Private.Kept.{has_row}
use Rattle.cedar_store.proofs.ahead.has_rows.Given as goal

abbrev pub invariant-loop-at : goal.invariant-loop-at
invariant-loop-at l = list_any (has_row l.rows) (take l.at-index l.near) ≡ false
