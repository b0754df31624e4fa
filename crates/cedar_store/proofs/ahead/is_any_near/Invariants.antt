use Rattle.std.proofs.Common.{◌≡◌, false, take}
use Rattle.std.specs.List.{list_any}
use Rattle.cedar_store.specs.Private.Kept.{has_datum, is_number_of}
use Rattle.cedar_store.proofs.ahead.is_any_near.Given as goal

abbrev pub invariant-loop-at : goal.invariant-loop-at
invariant-loop-at l = list_any (has_datum (λ u. list_any (is_number_of l.uids u) (take l.at-index l.near))) l.values ≡ false
