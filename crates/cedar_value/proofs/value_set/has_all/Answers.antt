use Rattle.std.proofs.Common.{sym, ◌∙◌}
use Rattle.std.proofs.lemmas.Map.Keys.{sorted_tail}
use Rattle.cedar_value.specs.Order.{datum_cmp}
use Rattle.cedar_value.proofs.Members.{all-less, all-equal, all-greater}
use Rattle.cedar_value.proofs.value_set.has_all.Goals as goal

pub walk-preserved-in-Less : goal.walk-preserved-in-Less
walk-preserved-in-Less c =
    let member = c.in-Some-split_first.ensures.cases.0 in
    let value = c.in-Some.ensures.cases.0 in
    let up = rw member at c.walk.invariant.members_ascend in
    let wanted = rw value at c.walk.invariant.wanted_ascend in
    let same = rw (member, value) at c.walk.invariant.same_answer in
    record {
      same_answer = rw value (same ∙ all-less _ _ _ _ up wanted (sym c.in-Less.ensures));
      members_ascend = sorted_tail datum_cmp _ _ up;
      wanted_ascend = c.walk.invariant.wanted_ascend;
    }

pub walk-preserved : goal.walk-preserved
walk-preserved c =
    let member = c.in-Some-split_first.ensures.cases.0 in
    let value = c.in-Some.ensures.cases.0 in
    let up = rw member at c.walk.invariant.members_ascend in
    let wanted = rw value at c.walk.invariant.wanted_ascend in
    let same = rw (member, value) at c.walk.invariant.same_answer in
    record {
      same_answer = same ∙ all-equal _ _ _ _ up wanted (sym c.in-Equal.ensures);
      members_ascend = sorted_tail datum_cmp _ _ up;
      wanted_ascend = sorted_tail datum_cmp _ _ wanted;
    }

pub returns-in-Greater : goal.returns-in-Greater
returns-in-Greater c =
    let member = c.in-Some-split_first.ensures.cases.0 in
    let value = c.in-Some.ensures.cases.0 in
    let up = rw member at c.walk.invariant.members_ascend in
    let wanted = rw value at c.walk.invariant.wanted_ascend in
    let same = rw (member, value) at c.walk.invariant.same_answer in
    sym (same ∙ all-greater _ _ _ _ up wanted (sym c.in-Greater.ensures))
