use Rattle.std.proofs.Common.{◌≡◌, false, take}
use Rattle.std.specs.List.{list_any}
use Rattle.cedar_store.specs.Private.Kept.{is_number_of}
use Rattle.cedar_store.proofs.ahead.is_near.Given as goal

abbrev pub invariant-loop-at : goal.invariant-loop-at
invariant-loop-at l = list_any (is_number_of l.uids l.uid) (take l.at-index l.near) ≡ false
