-- Lemmas on the first elements of a list.
use Rattle.std.proofs.Common.{◌≡◌, ℕ, ◌+◌, List, [], ◌∷◌, ◌++◌, length, take, None, Some, sym, ap, ◌∙◌, inl, inr, add-one}
use Rattle.std.specs.List.{slice_get}
use Rattle.std.proofs.lemmas.List.{length-append, take_all}
use Rattle.std.proofs.lemmas.Option.{slice_get_cases, none-some}
use Rattle.std.proofs.Math.Seq.{take-suc}
use Rattle.std.proofs.lemmas.Option.{slice_get_within, get_or_from_slice_get}

-- one more element of a list
pub take-next : {X : Type 0} (xs : List X) (i : ℕ) (x : X) → slice_get xs i ≡ Some x → take (i + 1) xs ≡ take i xs ++ x ∷ []
take-next xs i x e =
    rw add-one (take-suc xs i x (slice_get_within xs i x e) ∙ ap (λ y. take i xs ++ y ∷ []) (get_or_from_slice_get xs i x x e))

-- one more element after those that were taken
pub taken-more : {X : Type 0} (xs ys ys' : List X) (n : ℕ) (x y : X)
    → ys ≡ take (length ys) xs → n ≡ length ys → Some x ≡ slice_get xs n → y ≡ x → ys' ≡ ys ++ y ∷ [] → ys' ≡ take (length ys') xs
taken-more {X} xs ys ys' n x y h e at same is =
    let more : ys ++ y ∷ [] ≡ take (length ys + 1) xs =
    ap (λ (z : X). ys ++ z ∷ []) same
    ∙ ap (λ (zs : List X). zs ++ x ∷ []) h
    ∙ sym (take-next xs (length ys) x (ap (slice_get xs) (sym e) ∙ sym at)) in
    is ∙ more ∙ ap (λ (k : ℕ). take k xs) (sym (ap length is ∙ length-append ys (y ∷ [])))

-- no element is left after those that were taken
pub taken-all : {X : Type 0} (xs ys : List X) (n : ℕ) → ys ≡ take (length ys) xs → n ≡ length ys → None ≡ slice_get xs n → ys ≡ xs
taken-all xs ys n h e at =
    elim (slice_get_cases xs n).1 [
      | inl w ↦ absurd (none-some w.0 (at ∙ w.2))
      | inr p ↦ h ∙ take_all (length ys) xs (rw e at p.0)
    ]
