use Rattle.std.proofs.lemmas.Result.{err_from_is_err_and}
use Rattle.cedar_ast.proofs.LinkLemmas.{link-id}
use Rattle.cedar_ast.proofs.policy_set.PolicySet.link.Goals as goal

pub returns-in_err-policy-clause-no_such_template : goal.returns-in_err-policy-clause-no_such_template
returns-in_err-policy-clause-no_such_template c =
    let p = err_from_is_err_and c.from_residual.result c.from_residual.ensures.1 in rw (p.1, p.2) c.in_err-policy.ensures.no_such_template

pub returns-clause-distinct : goal.returns-clause-distinct
returns-clause-distinct c =
    let link = c.in_ok-policy.ensures.ok in
    let same = link-id link.source c.args.id.now c.args.slots.now c.in_ok-policy.policy link.linked in
    rw (← same) c.enter.ensures.distinct

pub returns-clause-duplicate : goal.returns-clause-duplicate
returns-clause-duplicate c =
    let link = c.in_ok-policy.ensures.ok in
    let same = link-id link.source c.args.id.now c.args.slots.now c.in_ok-policy.policy link.linked in
    rw (← same) c.enter.ensures.duplicate
