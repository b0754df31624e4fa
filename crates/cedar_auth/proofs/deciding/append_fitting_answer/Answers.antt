use Rattle.std.proofs.Common.{◌++◌, ap, ◌∙◌}
use Rattle.serde_json.specs.Written.{compact_text}
use Rattle.cedar_ast.specs.Response.{ResponseTree}
use Rattle.cedar_auth_spec.specs.AnswerJson.{response_data}
use Rattle.cedar_auth.specs.Private.Tally.{response_by}
use Rattle.cedar_auth.proofs.Responses.{response_by-tally}
use Rattle.cedar_auth.proofs.deciding.append_fitting_answer.Goals as goal

pub returns-clause-decided : goal.returns-clause-decided
returns-clause-decided c =
    let told = c.told-told.ensures ∙ ap response_by c.in_ok-tally_fitting.ensures ∙ response_by-tally c.args.found.now.request c.args.ready.now.world c.args.ready.now.policies.policies in
    c.decision-decision.ensures ∙ ap (λ (r : ResponseTree). r.decision) told

pub returns-clause-ok : goal.returns-clause-ok
returns-clause-ok c =
    let told = c.told-told.ensures ∙ ap response_by c.in_ok-tally_fitting.ensures ∙ response_by-tally c.args.found.now.request c.args.ready.now.world c.args.ready.now.policies.policies in
    c.in_ok-append_response.ensures.ok ∙ ap (λ (r : ResponseTree). c.args.out.now.items ++ compact_text (response_data r)) told
