use Rattle.std.proofs.Common.{◌∷◌, ◌++◌, ℕ, List, ap, ◌∙◌}
use Rattle.json.specs.Lex.{between, lex}
use Rattle.base_json.proofs.QuotedMembers.{plain_written}
use Rattle.base_json.proofs.three_quoted.past_key.Goals as goal

pub returns : goal.returns
returns c =
    let key = c.args.wanted.now in
    let inside = c.in_ok-closed.ensures ∙ ap (λ (xs : List ℕ). key ++ xs) c.in_ok-rest.ensures in
    ap (lex between) (c.in_ok-after.ensures ∙ ap (λ (xs : List ℕ). 34 ∷ xs) inside) ∙ plain_written key c.in_ok-rest.rest.now c.requires
