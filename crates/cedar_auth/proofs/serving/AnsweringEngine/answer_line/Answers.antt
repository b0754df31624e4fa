use Rattle.std.proofs.Common.{◌++◌, inl, inr, refl, ap, ◌∙◌}
use Rattle.serde_json.specs.Written.{compact_text}
use Rattle.cedar_ast.specs.Response.{ResponseTree, response}
use Rattle.cedar_conform_values.specs.Numbers.{number_of}
use Rattle.cedar_auth_spec.specs.AnswerJson.{response_data, refused_data}
use Rattle.cedar_auth.specs.Private.Tally.{response_by}
use Rattle.cedar_auth.proofs.Responses.{response_by-tally}
use Rattle.cedar_auth.proofs.serving.AnsweringEngine.answer_line.Goals as goal

pub returns-in_ok-append_response-in-Ok-clause-ok : goal.returns-in_ok-append_response-in-Ok-clause-ok
returns-in_ok-append_response-in-Ok-clause-ok c =
    let ready = c.args.self.now.ready.now in
    let q = c.in-Ok.found.request in
    let made = c.told.ensures ∙ ap response_by c.in_ok-tally_fitting-in-Ok.ensures ∙ response_by-tally q ready.world ready.policies.policies in (
      compact_text (response_data (response ready.policies.policies q ready.world)),
      inl (q, c.in-Ok.ensures.denotes, refl),
      c.in_ok-append_response-in-Ok.ensures.ok ∙ ap (λ (r : ResponseTree). c.args.out.now.items ++ compact_text (response_data r)) made,
    )

pub returns-in_ok-append_fault-in-Err-clause-ok : goal.returns-in_ok-append_fault-in-Err-clause-ok
returns-in_ok-append_fault-in-Err-clause-ok c =
    let fault = c.in-Err.fault in
    let told = c.in_ok-append_fault-in-Err.ensures.told in (
      compact_text (refused_data (number_of fault)),
      inr (fault, told, c.in-Err.ensures.refused told, λ q h. told (c.in-Err.ensures.only q h), refl),
      c.in_ok-append_fault-in-Err.ensures.ok,
    )
