use Rattle.std.proofs.Common.{◌∷◌, ◌++◌, ℕ, List, ap, ◌∙◌}
use Rattle.json.specs.Lex.{between, lex}
use Rattle.base_json.proofs.QuotedMembers.{plain_written}
use Rattle.base_json.proofs.quoted_member.plain_string.Goals as goal

pub returns : goal.returns
returns c =
    let plain = c.in_ok-plain.plain.now in
    let inside = c.in_ok-plain.ensures.whole ∙ ap (λ (xs : List ℕ). plain ++ xs) c.in_ok-after-2.ensures in
    ap (lex between) (c.in_ok-after.ensures ∙ ap (λ (xs : List ℕ). 34 ∷ xs) inside) ∙ plain_written plain c.in_ok-after-2.field-0.now c.in_ok-plain.ensures.plain
