use Rattle.std.proofs.Common.{refl, ◌∙◌, sym}
use Rattle.std.proofs.lemmas.List.{nil_from_length}
use Rattle.cedar_value.proofs.ByKeys.{ascend_more, ascend_not, ascend_one, ascend_none, less_from_ge, ge_not_less}
use Rattle.cedar_schema_types.proofs.Names.{name_of}
use Rattle.cedar_schema_types.proofs.record_type.names_ascend.Goals as goal

pub returns-in_default : goal.returns-in_default
returns-in_default c = (λ _. rw (nil_from_length c.args.attributes.now c.in_default.ensures.cases) (ascend_none name_of), λ _. refl)

pub returns-then-ge : goal.returns-then-ge
returns-then-ge c =
    let both = rw c.in-Some-split_first.ensures.cases.0 at c.walk.invariant in
    (λ h. cc, λ up. absurd (ascend_not name_of c.walk.last.now c.in-Some-split_first.attribute.now c.in-Some-split_first.others.now (ge_not_less _ (sym c.ge.ensures ∙ c.if-ge.true)) (both.0 up)))

pub walk-preserved : goal.walk-preserved
walk-preserved c =
    let both = rw c.in-Some-split_first.ensures.cases.0 at c.walk.invariant in
    let less = ascend_more name_of c.walk.last.now c.in-Some-split_first.attribute.now c.in-Some-split_first.others.now (less_from_ge _ (sym c.ge.ensures ∙ c.if-ge.false)) in
    (λ up. less.0 (both.0 up), λ up. both.1 (less.1 up))

pub returns : goal.returns
returns c =
    let none = nil_from_length c.walk.later.now c.in_default-split_first.ensures.cases in
    let both = rw none at c.walk.invariant in
    (λ _. both.1 (ascend_one name_of c.walk.last.now), λ _. refl)
