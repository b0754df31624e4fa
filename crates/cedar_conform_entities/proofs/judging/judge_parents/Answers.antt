use Rattle.cedar_conform_entities.specs.Private.Parts.{IsGoodParent, undeclared_parent, no_descent}
use Rattle.cedar_conform_entities.proofs.EntryLemmas.{all_more, all_first, declared, not_declared, not_so}
use Rattle.cedar_conform_entities.proofs.judging.judge_parents.Goals as goal

pub walk-preserved : goal.walk-preserved
walk-preserved c =
    all_more (IsGoodParent c.args.schema.now c.args.uid.now) c.args.parents.now c.walk.rest.now c.in-Some.others.now c.in-Some.parent.now c.in-Some.ensures.cases.0
    (declared _ c.args.schema.now c.in-Some.parent.now.ty _ c.is_none.result c.attributes.ensures c.is_none.ensures c.if-is_none.false, c.type_descends.ensures.0 c.if-not-type_descends.false) c.walk.invariant

pub returns-then-is_none : goal.returns-then-is_none
returns-then-is_none c =
    undeclared_parent (all_first (IsGoodParent c.args.schema.now c.args.uid.now) c.args.parents.now c.walk.rest.now c.in-Some.others.now c.in-Some.parent.now c.in-Some.ensures.cases.0 c.walk.invariant)
    (not_declared _ c.args.schema.now c.in-Some.parent.now.ty _ c.is_none.result c.attributes.ensures c.is_none.ensures c.if-is_none.true)

pub returns-then-not-type_descends : goal.returns-then-not-type_descends
returns-then-not-type_descends c =
    no_descent (all_first (IsGoodParent c.args.schema.now c.args.uid.now) c.args.parents.now c.walk.rest.now c.in-Some.others.now c.in-Some.parent.now c.in-Some.ensures.cases.0 c.walk.invariant)
    (not_so c.type_descends.result _ c.type_descends.ensures c.if-not-type_descends.true)
