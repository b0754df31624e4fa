use Rattle.std.proofs.Common.{◌≡◌, false, take}
use Rattle.std.specs.BTreeSet.{contains}
use Rattle.std.specs.List.{list_any}
use Rattle.cedar_value.specs.Order.{uid_cmp}
use Rattle.cedar_store.specs.Private.Kept.{has_datum}
use Rattle.cedar_store.proofs.plain_sets.has_any.Given as goal

abbrev pub invariant-loop-value : goal.invariant-loop-value
invariant-loop-value l = list_any (has_datum (contains uid_cmp l.uids)) (take l.value-index l.value-items) ≡ false
