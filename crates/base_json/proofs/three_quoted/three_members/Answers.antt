use Rattle.std.proofs.Common.{◌∷◌, List, ap, ◌∙◌}
use Rattle.json.specs.Token.{Token, key, string}
use Rattle.base_json.proofs.three_quoted.three_members.Goals as goal

pub returns : goal.returns
returns c =
    c.in_ok-one.ensures
    ∙ ap (λ (ts : List Token). key c.args.first.now ∷ string c.in_ok-one.one ∷ ts) (c.in_ok-two.ensures ∙ ap (λ (ts : List Token). key c.args.second.now ∷ string c.in_ok-two.two ∷ ts) c.in_ok-three.ensures)
