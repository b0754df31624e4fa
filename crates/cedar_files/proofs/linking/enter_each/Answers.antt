use Rattle.std.proofs.lemmas.Result.{err_from_is_err_and}
use Rattle.cedar_files.proofs.Links.{fault-here, fault-next, linked-next}
use Rattle.cedar_files.proofs.linking.enter_each.Goals as goal

pub returns-in_err-enter-clause-refused : goal.returns-in_err-enter-clause-refused
returns-in_err-enter-clause-refused c =
    let p = err_from_is_err_and c.from_residual.result c.from_residual.ensures.1 in
    rw (p.1, p.2) (fault-here _ _ _ c.walk.rest.now c.in-Some.others.now c.in-Some.link.now _ c.in-Some.ensures.cases.0 c.in_err-enter.ensures.refused c.walk.invariant.fault)

pub walk-preserved : goal.walk-preserved
walk-preserved c =
    let cut = c.in-Some.ensures.cases.0 in
    record {
      linked = linked-next _ _ _ _ c.walk.rest.now c.in-Some.others.now c.in-Some.link.now cut c.in_ok-enter.ensures.ok c.walk.invariant.linked;
      fault = fault-next _ _ _ _ c.walk.rest.now c.in-Some.others.now c.in-Some.link.now cut c.in_ok-enter.ensures.ok c.walk.invariant.fault;
    }
