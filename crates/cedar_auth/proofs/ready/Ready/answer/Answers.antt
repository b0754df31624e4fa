use Rattle.std.proofs.Common.{Contains, ap, subst, ◌∙◌}
use Rattle.cedar_ast.specs.Response.{ResponseTree}
use Rattle.cedar_auth.specs.Private.Tally.{response_by}
use Rattle.cedar_auth.proofs.Responses.{response_by-tally}
use Rattle.cedar_auth.proofs.ready.Ready.answer.Goals as goal

pub returns-clause-ok : goal.returns-clause-ok
returns-clause-ok c =
    c.into_response.ensures ∙ ap response_by c.in_ok-tally.ensures ∙ response_by-tally c.args.request.now c.args.self.now.world c.args.self.now.policies.policies

pub returns-clause-errors : goal.returns-clause-errors
returns-clause-errors c =
    let told = c.into_response.ensures ∙ ap response_by c.in_ok-tally.ensures ∙ response_by-tally c.args.request.now c.args.self.now.world c.args.self.now.policies.policies in
    λ x m. (c.soundness.ensures c.args.request.now c.requires).errors x (subst (λ (r : ResponseTree). Contains r.erring x) told m)

pub returns-in_err-tally-clause-sound : goal.returns-in_err-tally-clause-sound
returns-in_err-tally-clause-sound c = c.soundness.ensures c.args.request.now c.requires

pub returns-clause-sound : goal.returns-clause-sound
returns-clause-sound c = c.soundness.ensures c.args.request.now c.requires
