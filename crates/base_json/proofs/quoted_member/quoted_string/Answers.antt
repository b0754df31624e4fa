use Rattle.std.proofs.Common.{◌∷◌, ◌++◌, ℕ, List, sym, ap, ◌∙◌}
use Rattle.json.specs.Token.{string}
use Rattle.json.specs.Lex.{between, lex, token}
use Rattle.base_json.proofs.QuotedMembers.{quoted_written}
use Rattle.base_json.proofs.quoted_member.quoted_string.Goals as goal

pub returns : goal.returns
returns c =
    let before = c.in_ok-before.before.now in
    let quoted = c.in_ok-quoted.quoted.now in
    let rest = c.in_ok-rest.rest.now in
    let closing = c.in_ok-after_escaped_quote-2.ensures ∙ ap (λ (xs : List ℕ). 92 ∷ 34 ∷ xs) c.in_ok-rest.ensures in
    let second = c.in_ok-quoted.ensures.whole ∙ ap (λ (xs : List ℕ). quoted ++ xs) closing in
    let first = c.in_ok-before.ensures.whole ∙ ap (λ (xs : List ℕ). before ++ xs) (c.in_ok-after_escaped_quote.ensures ∙ ap (λ (xs : List ℕ). 92 ∷ 34 ∷ xs) second) in
    ap (lex between) (c.in_ok-after.ensures ∙ ap (λ (xs : List ℕ). 34 ∷ xs) first) ∙ quoted_written before quoted rest c.in_ok-before.ensures.plain c.in_ok-quoted.ensures.plain
    ∙ ap (λ s. token (string s) ∷ lex between rest) (sym c.new.ensures)
