use Rattle.std.proofs.Common.{◌≡◌, false, take}
use Rattle.std.specs.List.{list_any}
use Rattle.cedar_value.specs.Datum.{same_uid}
use Rattle.cedar_store.specs.Private.Kept.{has_datum}
use Rattle.cedar_store.proofs.ahead.has_uid.Given as goal

abbrev pub invariant-loop-value : goal.invariant-loop-value
invariant-loop-value l = list_any (has_datum (λ u. same_uid u l.uid)) (take l.value-index l.value-items) ≡ false
