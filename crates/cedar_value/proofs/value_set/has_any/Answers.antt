use Rattle.std.proofs.Common.{sym, ◌∙◌}
use Rattle.std.proofs.lemmas.Map.Keys.{sorted_tail}
use Rattle.std.proofs.lemmas.List.{nil_from_length}
use Rattle.cedar_value.specs.Order.{datum_cmp}
use Rattle.cedar_value.proofs.Members.{any-less, any-equal, any-greater, any-none}
use Rattle.cedar_value.proofs.value_set.has_any.Goals as goal

pub returns-in_default-split_first : goal.returns-in_default-split_first
returns-in_default-split_first c =
    let none = nil_from_length c.walk.members.now c.in_default-split_first.ensures.cases in
    sym (c.walk.invariant.same_answer ∙ (rw none (any-none c.walk.wanted.now)))

pub walk-preserved-in-Less : goal.walk-preserved-in-Less
walk-preserved-in-Less c =
    let member = c.in-Some-split_first.ensures.cases.0 in
    let value = c.in-Some.ensures.cases.0 in
    let up = rw member at c.walk.invariant.members_ascend in
    let wanted = rw value at c.walk.invariant.wanted_ascend in
    let same = rw (member, value) at c.walk.invariant.same_answer in
    record {
      same_answer = rw value (same ∙ any-less _ _ _ _ up wanted (sym c.in-Less.ensures));
      members_ascend = sorted_tail datum_cmp _ _ up;
      wanted_ascend = c.walk.invariant.wanted_ascend;
    }

pub returns-in-Equal : goal.returns-in-Equal
returns-in-Equal c =
    let member = c.in-Some-split_first.ensures.cases.0 in
    let value = c.in-Some.ensures.cases.0 in
    let up = rw member at c.walk.invariant.members_ascend in
    let wanted = rw value at c.walk.invariant.wanted_ascend in
    let same = rw (member, value) at c.walk.invariant.same_answer in
    sym (same ∙ any-equal _ _ _ _ up wanted (sym c.in-Equal.ensures))

pub walk-preserved : goal.walk-preserved
walk-preserved c =
    let member = c.in-Some-split_first.ensures.cases.0 in
    let value = c.in-Some.ensures.cases.0 in
    let up = rw member at c.walk.invariant.members_ascend in
    let wanted = rw value at c.walk.invariant.wanted_ascend in
    let same = rw (member, value) at c.walk.invariant.same_answer in
    record {
      same_answer = rw member (same ∙ any-greater _ _ _ _ up wanted (sym c.in-Greater.ensures));
      members_ascend = c.walk.invariant.members_ascend;
      wanted_ascend = sorted_tail datum_cmp _ _ wanted;
    }
