use Rattle.std.proofs.Common.{subst}
use Rattle.std.proofs.lemmas.Result.{err_from_is_err_and}
use Rattle.cedar_conform_entities.proofs.ChangesLemmas.{removals_start, removals_more, action_removed, removed_twice, removals_end}
use Rattle.cedar_conform_entities.proofs.EntryLemmas.{not_so}
use Rattle.cedar_conform_entities.specs.Private.Changing.{IsNoted, RefusesNoted}
use Rattle.cedar_value.specs.declared.uid.Uid.{Uid}
use Rattle.cedar_conform_entities.proofs.removals.judge_removals.Goals as goal

pub walk-init : goal.walk-init
walk-init c = removals_start c.args.schema.now c.args.removed.now c.new-noted.result c.new-noted.ensures.empty

pub returns-then-is_action : goal.returns-then-is_action
returns-then-is_action c =
    action_removed c.args.schema.now c.args.removed.now c.walk.rest.now c.in-Some.others.now c.in-Some.uid.now c.in-Some.ensures.cases.0 c.walk.noted c.walk.invariant (c.is_action.ensures.0 c.if-is_action.true)

pub returns-in_err-note : goal.returns-in_err-note
returns-in_err-note c =
    let p = err_from_is_err_and c.from_residual-in_err-note.result c.from_residual-in_err-note.ensures.1 in
    rw (p.1, p.2) (removed_twice c.args.schema.now c.args.removed.now c.walk.rest.now c.in-Some.others.now c.in-Some.uid.now c.in-Some.ensures.cases.0 c.walk.noted c.walk.invariant _
    (subst (λ (u : Uid). RefusesNoted c.walk.noted u c.in_err-note.field-0.0) c.in_ok-try_clone.ensures c.in_err-note.ensures))

pub walk-preserved : goal.walk-preserved
walk-preserved c =
    removals_more c.args.schema.now c.args.removed.now c.walk.rest.now c.in-Some.others.now c.in-Some.uid.now c.in-Some.ensures.cases.0 c.walk.noted c.walk.invariant c.note.new.noted
    (not_so c.is_action.result _ c.is_action.ensures c.if-is_action.false)
    (subst (λ (u : Uid). IsNoted c.walk.noted c.note.new.noted u) c.in_ok-try_clone.ensures c.in_ok-note.ensures)

pub returns : goal.returns
returns c = removals_end c.args.schema.now c.args.removed.now c.walk.rest.now c.walk.noted c.in_default.ensures.cases c.walk.invariant
