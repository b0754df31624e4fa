-- What holds of each element of a list, in a loop over it.
use Rattle.std.proofs.Common.{◌≡◌, ℕ, ◌+◌, ◌<◌, ◌≤◌, inl, inr, List, [], ◌∷◌, ◌++◌, length, get_or, take, sym, ap, subst, ◌∙◌, Contains}
use Rattle.std.proofs.lemmas.List.{take_more, take_all}
use Rattle.std.proofs.lemmas.List.Elements.{Contains-push_cases}
use Rattle.base_reach.proofs.Listed.{nowhere}

abbrev pub Each : {A : Type 0} → (A → Type 0) → List A → Type 0
Each {A} P us = (x : A) → Contains us x → P x

module _ {A : Type 0} (P : A → Type 0) where
  pub each_none : (us : List A) → Each P (take 0 us)
  each_none us x m = absurd (nowhere x m)

  pub each_more : (us : List A) (i : ℕ) (u : A) → i < length us → u ≡ get_or us i u → Each P (take i us) → P u → Each P (take (i + 1) us)
  each_more us i u within is each one x m =
      let more : take (i + 1) us ≡ take i us ++ u ∷ [] = take_more us i u within ∙ ap (λ v. take i us ++ v ∷ []) (sym is) in
      elim (Contains-push_cases (take i us) u x (subst (λ vs. Contains vs x) more m)) [
        | inl before ↦ each x before
        | inr now ↦ subst P now one
      ]

  pub each_all : (us : List A) (i : ℕ) → length us ≤ i → Each P (take i us) → Each P us
  each_all us i past each x m = each x (subst (λ vs. Contains vs x) (sym (take_all i us past)) m)
