use Rattle.std.proofs.Common.{◌∙◌, refl}
use Rattle.cedar_auth_spec.specs.AnswerJson.{response_data}
use Rattle.cedar_auth.proofs.Texts.{text_behind}
use Rattle.cedar_auth.proofs.answer.append_long.Goals as goal

pub returns-clause-ok : goal.returns-clause-ok
returns-clause-ok c =
    text_behind c.hand_back.result _ _ _ _ _ _ (response_data c.args.response.now) c.hand_back.ensures.same c.hand_back.ensures.ok
    (c.write_response-written.ensures.before ∙ rw (c.new-writer.ensures.before, c.replace.ensures.value) refl)
    c.new-writer.ensures.tokens c.write_response-written.ensures.tokens
