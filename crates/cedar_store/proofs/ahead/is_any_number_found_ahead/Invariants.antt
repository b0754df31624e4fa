use Rattle.std.proofs.Common.{◌≡◌, false, take}
use Rattle.std.specs.List.{list_any}
use Rattle.cedar_store.specs.Private.Kept.{has_datum, in_ahead}
use Rattle.cedar_store.proofs.ahead.is_any_number_found_ahead.Given as goal

abbrev pub invariant-loop-value : goal.invariant-loop-value
invariant-loop-value l = list_any (has_datum (in_ahead l.numbers.keys l.rows l.near)) (take l.value-index l.value-items) ≡ false
