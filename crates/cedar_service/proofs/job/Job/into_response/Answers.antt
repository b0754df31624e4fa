use Rattle.std.proofs.Common.{Contains, subst}
use Rattle.cedar_ast.specs.Response.{ResponseTree}
use Rattle.cedar_check_spec.specs.Soundness.{IsAllowedWith}
use Rattle.cedar_service_law.specs.Jobs.{JobTree}
use Rattle.cedar_service.proofs.job.Job.into_response.Goals as goal

pub returns-clause-errors : goal.returns-clause-errors
returns-clause-errors c = λ x h.
    subst (λ (j : JobTree). IsAllowedWith j.version.settings x.error) c.self.view_is
    (c.self.invariant.allowed x (subst (λ (r : ResponseTree). Contains r.erring x) c.into_response.ensures h))
