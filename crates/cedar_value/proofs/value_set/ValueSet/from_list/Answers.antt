use Rattle.std.proofs.lemmas.List.Filters.{dedup_is}
use Rattle.cedar_value.specs.Datum.{same}
use Rattle.cedar_value.proofs.Members.{IsAscending-dedup, SameMembers-dedup, set_from-members}
use Rattle.cedar_value.proofs.ValueLists.{AreValues-among}
use Rattle.cedar_value.proofs.value_set.ValueSet.from_list.Goals as goal

pub invariant_of-result : goal.invariant_of-result
invariant_of-result c =
    let values = rw c.deref.ensures.value at c.are_values.ensures in
    rw (dedup_is same _ _ c.dedup.ensures.filtered)
    (IsAscending-dedup _ c.in_ok-sort.ensures.sorted, AreValues-among _ _ (λ d m. (SameMembers-dedup _ _ c.in_ok-sort.ensures.permutation d).0 m) values)

pub returns-clause-members : goal.returns-clause-members
returns-clause-members c = rw (dedup_is same _ _ c.dedup.ensures.filtered) (SameMembers-dedup _ _ c.in_ok-sort.ensures.permutation)

pub returns-clause-ascending : goal.returns-clause-ascending
returns-clause-ascending c = rw (dedup_is same _ _ c.dedup.ensures.filtered) (IsAscending-dedup _ c.in_ok-sort.ensures.sorted)

pub returns-clause-gives : goal.returns-clause-gives
returns-clause-gives c =
    rw (dedup_is same _ _ c.dedup.ensures.filtered)
    (set_from-members _ _ (IsAscending-dedup _ c.in_ok-sort.ensures.sorted) (SameMembers-dedup _ _ c.in_ok-sort.ensures.permutation))
