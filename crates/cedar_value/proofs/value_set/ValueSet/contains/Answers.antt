use Rattle.std.specs.Bool.{one_answer}
use Rattle.cedar_value.proofs.Members.{searched_members, has_member-Contains}
use Rattle.cedar_value.proofs.value_set.ValueSet.contains.Goals as goal

pub returns-clause-member : goal.returns-clause-member
returns-clause-member c =
    let found = searched_members _ c.args.value.now c.binary_search.result c.self.invariant.0 (rw c.deref.ensures.value at c.binary_search.ensures.bound) (rw c.deref.ensures.value at c.binary_search.ensures.position) in
    rw (← c.self.view_is, c.is_ok.ensures.value) found

pub returns-clause-gives : goal.returns-clause-gives
returns-clause-gives c =
    let found = searched_members _ c.args.value.now c.binary_search.result c.self.invariant.0 (rw c.deref.ensures.value at c.binary_search.ensures.bound) (rw c.deref.ensures.value at c.binary_search.ensures.position) in
    rw (← c.self.view_is, c.is_ok.ensures.value) (one_answer _ _ found (has_member-Contains _ _))
