use Rattle.std.proofs.Common.{◌∷◌, ap, ◌∙◌}
use Rattle.json.specs.Token.{end_object}
use Rattle.json.specs.Lex.{between, lex, token}
use Rattle.base_json.proofs.QuotedMembers.{brace_passed}
use Rattle.base_json.proofs.quoted_member.after_object.Goals as goal

pub returns : goal.returns
returns c =
    c.in_ok-brace.ensures ∙ ap (lex between) c.in_ok-after.ensures ∙ brace_passed c.in_ok-after.field-0.now ∙ ap (λ ls. token end_object ∷ ls) c.in_ok-rest.ensures
