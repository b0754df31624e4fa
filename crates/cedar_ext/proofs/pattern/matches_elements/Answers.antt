use Rattle.std.proofs.Common.{◌≡◌, ℕ, List, [], sym, ap, ◌∙◌, length}
use Rattle.std.specs.Bool.{◌==◌}
use Rattle.std.proofs.lemmas.List.{nil_from_length}
use Rattle.cedar_ext.proofs.FirstChar.{no_chars-empty, text-no_chars}
use Rattle.cedar_ext.proofs.Pieces.{character_first, character_more}
use Rattle.cedar_ext.proofs.pattern.matches_elements.Goals as goal

pub walk-preserved : goal.walk-preserved
walk-preserved c =
    let both = rw (c.in-Some.ensures.cases.0, c.in-Character.is, c.in-Some-split_first.ensures.cut, c.if-d-c.true) at c.walk.invariant.0 in
    ((λ m. (character_first _ _ _ _ (both.0 m)).1, λ n. both.1 (character_more _ _ _ n)), c.in-Some-split_first.ensures.text)

pub returns : goal.returns
returns c =
    let none : c.walk.todo.now ≡ [] = nil_from_length c.walk.todo.now c.in_default.ensures.cases in
    let both = rw none at c.walk.invariant.0 in (
      λ h. both.1 (no_chars-empty c.walk.rest.now (sym h ∙ c.is_empty.ensures)),
      λ m. c.is_empty.ensures ∙ ap (λ (bs : List ℕ). length bs == 0) (text-no_chars c.walk.rest.now c.walk.invariant.1 (both.0 m)),
    )
