use Rattle.std.proofs.Common.{refl}
use Rattle.cedar_value.proofs.ByKeys.{distinct-ascending}
use Rattle.cedar_value.proofs.Keys.{key, sorted-distinct, SamePairs-sorted, record_from-pairs}
use Rattle.cedar_value.proofs.ValueLists.{HoldValues-among}
use Rattle.cedar_value.proofs.value_record.Record.from_pairs.Goals as goal

pub invariant_of-result : goal.invariant_of-result
invariant_of-result c =
    let up = rw c.deref-2.ensures.value at (c.keys_ascend.ensures.0 c.if-keys_ascend.true) in
    let values = rw c.deref.ensures.value at c.hold_values.ensures in
    (up, HoldValues-among _ _ (λ p m. (SamePairs-sorted _ _ c.in_ok-sort.ensures.permutation p).0 m) values)

pub returns-then-keys_ascend-clause-distinct : goal.returns-then-keys_ascend-clause-distinct
returns-then-keys_ascend-clause-distinct c =
    let up = rw c.deref-2.ensures.value at (c.keys_ascend.ensures.0 c.if-keys_ascend.true) in
    (λ _. distinct-ascending key _ _ c.in_ok-sort.ensures.permutation up, λ _. refl)

pub returns-then-keys_ascend-clause-pairs : goal.returns-then-keys_ascend-clause-pairs
returns-then-keys_ascend-clause-pairs c = SamePairs-sorted _ _ c.in_ok-sort.ensures.permutation

pub returns-then-keys_ascend-clause-gives : goal.returns-then-keys_ascend-clause-gives
returns-then-keys_ascend-clause-gives c =
    let up = rw c.deref-2.ensures.value at (c.keys_ascend.ensures.0 c.if-keys_ascend.true) in
    record_from-pairs _ _ up (SamePairs-sorted _ _ c.in_ok-sort.ensures.permutation)

pub returns-else-keys_ascend-clause-distinct : goal.returns-else-keys_ascend-clause-distinct
returns-else-keys_ascend-clause-distinct c = (
  λ h. cc,
  λ distinct.
      let up = sorted-distinct _ _ c.in_ok-sort.ensures.permutation c.in_ok-sort.ensures.sorted distinct in
      let told = c.keys_ascend.ensures.1 (rw c.deref-2.ensures.value up) in cc,
)
