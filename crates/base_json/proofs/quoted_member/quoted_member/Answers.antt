use Rattle.std.proofs.Common.{◌∷◌, ap, ◌∙◌}
use Rattle.json.specs.Token.{key, string}
use Rattle.json.specs.Lex.{after_value, begins_colon, between, colon, fresh, lex, punctuate, token}
use Rattle.base_json.proofs.QuotedMembers.{colon_passed, member_begins}
use Rattle.base_json.proofs.quoted_member.quoted_member.Goals as goal

pub returns : goal.returns
returns c =
    let k = c.in_ok-key.key.now in
    let s = c.in_ok-value.value in
    let passed = c.in_ok-follows.ensures in
    let value = c.in_ok-quote.ensures ∙ c.in_ok-value.ensures in
    let named = c.in_ok-colon.ensures ∙ ap (lex between) c.in_ok-after.ensures ∙ colon_passed c.in_ok-after.field-0.now ∙ ap (λ ls. colon ∷ ls) value in
    let lexemes = c.in_ok-past_spaces.ensures ∙ c.in_ok-key.ensures ∙ ap (λ ls. token (string k) ∷ ls) named in
    ap (punctuate fresh) lexemes ∙ member_begins k s (lex between c.in_ok-value.after_value.now) (ap begins_colon passed ∙ c.in_ok-rest.ensures.value)
    ∙ ap (λ ts. key k ∷ string s ∷ ts) (ap (punctuate after_value) passed ∙ c.in_ok-rest.ensures.rest)
