use Rattle.std.proofs.Common.{◌++◌, ◌∷◌, ℕ, List, sym, ap, ◌∙◌}
use Rattle.json.specs.Lex.{between, lex, token}
use Rattle.json.specs.Token.{string}
use Rattle.base_json.proofs.PlainWords.{string_past}
use Rattle.base_json.proofs.QuotedMembers.{plain_written}
use Rattle.base_json.proofs.plain_scalar.string_at.Goals as goal

pub returns : goal.returns
returns c =
    let plain = c.in_ok-plain.plain.now in
    let end = c.in_ok-after-2.field-0.now in
    let inside = c.in_ok-plain.ensures.whole ∙ ap (λ (xs : List ℕ). plain ++ xs) c.in_ok-after-2.ensures in
    let parts = sym c.in_ok-left.ensures.back ∙ c.in_ok-after.ensures ∙ ap (λ (xs : List ℕ). 34 ∷ xs) inside in
    ap (lex between) parts ∙ plain_written plain end c.in_ok-plain.ensures.plain
    ∙ ap (λ xs. token (string plain) ∷ lex between xs) (sym (string_past c.args.text.now c.args.at plain end parts))
