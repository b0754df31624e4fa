use Rattle.cedar_conform_entities.proofs.EntryLemmas.{all_start, all_more, all_first, not_so}
use Rattle.cedar_conform_entities.proofs.judging.descends_from_all.Goals as goal
use Rattle.cedar_schema_spec.specs.Descents.{ActionDescends}

pub walk-init : goal.walk-init
walk-init c = all_start (ActionDescends c.args.schema.now c.args.action.now) c.args.ancestors.now

pub walk-preserved : goal.walk-preserved
walk-preserved c =
    all_more (ActionDescends c.args.schema.now c.args.action.now) c.args.ancestors.now c.walk.rest.now c.in-Some.others.now c.in-Some.ancestor.now c.in-Some.ensures.cases.0 (c.action_descends.ensures.0 c.if-not-action_descends.false) c.walk.invariant

pub returns-then-not-action_descends : goal.returns-then-not-action_descends
returns-then-not-action_descends c = (
  λ h. cc,
  λ h. absurd (not_so c.action_descends.result _ c.action_descends.ensures c.if-not-action_descends.true (h c.in-Some.ancestor.now (all_first (ActionDescends c.args.schema.now c.args.action.now) c.args.ancestors.now c.walk.rest.now c.in-Some.others.now c.in-Some.ancestor.now c.in-Some.ensures.cases.0 c.walk.invariant))),
)
