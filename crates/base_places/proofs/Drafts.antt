-- What a draft holds after several pieces.
use Rattle.std.proofs.Common.{◌≡◌, ◌<◌, ℕ, ◌+◌, List, [], ◌∷◌, ◌++◌, map, take, length, Option, Some, None, Bor, slice_index_or, refl, sym, ap, ◌∙◌}
use Rattle.std.specs.Prelude.{IfSome, option_map}
use Rattle.std.specs.List.{concat}
use Rattle.std.proofs.lemmas.List.{take_more, append-nil, append_assoc, map-append}
use Rattle.std.proofs.lemmas.List.Folds.{concat-append}
use Rattle.base_places.specs.Drafts.{Adds}

pub adds_nothing : (held : Option (List ℕ)) → Adds held [] held
adds_nothing None = tt
adds_nothing (Some bytes) = ap Some (append-nil bytes)

both : (held : Option (List ℕ)) (x y : List ℕ) → option_map (λ b. b ++ (x ++ y)) held ≡ option_map (λ b. b ++ y) (option_map (λ b. b ++ x) held)
both None x y = refl
both (Some begun) x y = ap Some (sym (append_assoc begun x y))

-- two pieces are added as one
pub adds_both : (held between now : Option (List ℕ)) (x y : List ℕ) → Adds held x between → Adds between y now → Adds held (x ++ y) now
adds_both held between None x y first second = tt
adds_both held None (Some bytes) x y first second = cc
adds_both held (Some begun) (Some bytes) x y first second = both held x y ∙ ap (option_map (λ b. b ++ y)) first ∙ second

-- the texts up to a place, and one more
pub texts_more : (texts : List (Bor (List ℕ))) (i : ℕ) (text : Bor (List ℕ)) → i < length texts
    → concat (map (λ t. t.now) (take (i + 1) texts)) ≡ concat (map (λ t. t.now) (take i texts)) ++ (slice_index_or texts i text).now
texts_more texts i text low =
    let at = slice_index_or texts i text in
    ap (λ ts. concat (map (λ t. t.now) ts)) (take_more texts i text low) ∙ ap concat (map-append (λ t. t.now) (take i texts) (at ∷ []))
    ∙ concat-append (map (λ t. t.now) (take i texts)) (at.now ∷ []) ∙ ap (λ bytes. concat (map (λ t. t.now) (take i texts)) ++ bytes) (append-nil at.now)

pub if_some : {A : Type 0} {P : Type 0} (o : Option A) → P → IfSome o (λ _. P)
if_some None p = tt
if_some (Some x) p = p
