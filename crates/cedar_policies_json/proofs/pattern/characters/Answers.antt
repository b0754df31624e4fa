use Rattle.std.proofs.Common.{◌≡◌, ℕ, List, [], ◌∷◌, map, refl, sym, ap, ◌∙◌}
use Rattle.std.proofs.lemmas.Iterator.{YieldsList-from_chars}
use Rattle.std.proofs.lemmas.Iterator.Consumers.{YieldsList-end}
use Rattle.cedar_ext.specs.declared.pattern.Element.TheVariants.{Character}
use Rattle.cedar_policies_json.proofs.pattern.characters.Goals as goal

themselves : (xs : List ℕ) → map (λ c. c) xs ≡ xs
themselves [] = refl
themselves (x ∷ xs) = ap (λ (ys : List ℕ). x ∷ ys) (themselves xs)

pub returns : goal.returns
returns c =
    let all = YieldsList-end (YieldsList-from_chars c.args.text.now c.utf8.text cc) c.loop-character.yielded _ c.loop-character.yielded_by _ _ c.in-None.is c.next.ensures.steps in
    c.loop-character.invariant ∙ ap (map Character) (sym (themselves c.loop-character.yielded) ∙ all.0)
