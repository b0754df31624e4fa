-- Positions that are gathered from lists.
use Rattle.std.proofs.Common.{◌≡◌, ℕ, zero, suc, ◌+◌, ◌<◌, ◌≤◌, ◌⊎◌, inl, inr, ⊎_elim, get_or, List, [], ◌∷◌, map, length, Contains, arith, refl, sym, ap, subst, ◌∙◌}
use Rattle.std.specs.Borrow.{Bor}
use Rattle.cedar_value.specs.declared.uid.Uid.{Uid}
use Rattle.cedar_auth_candidates.specs.Private.Kept.{Holds, Lists, list_at}

pub less_or_same : (j i : ℕ) → j < i + 1 → (j < i) ⊎ (j ≡ i)
less_or_same zero zero lt = inr refl
less_or_same zero (suc i) lt = inl (omega arith)
less_or_same (suc j) zero lt = absurd (omega arith)
less_or_same (suc j) (suc i) lt = ⊎_elim (λ h. inl (omega arith)) (λ e. inr (ap suc e)) (less_or_same j i (omega arith))

-- what is at a place does not depend on what would be there else
same_at : (us : List (Bor Uid)) (i : ℕ) (a b : Bor Uid) → i < length us → get_or us i a ≡ get_or us i b
same_at [] i a b low = absurd (omega arith)
same_at (u ∷ us) zero a b low = refl
same_at (u ∷ us) (suc i) a b low = same_at us i a b (omega arith)

-- the lists of the first uids are held
abbrev pub HoldsFirst : Lists → List (Bor Uid) → ℕ → List ℕ → Type 0
HoldsFirst lists us i ks = (j : ℕ) (u : Bor Uid) → j < i → get_or us j u ≡ u → Holds (list_at lists u.now) ks

pub first_more : (lists : Lists) (us : List (Bor Uid)) (i : ℕ) (x : Bor Uid) (old new : List ℕ) → i < length us → x ≡ get_or us i x → Holds old new → Holds (list_at lists x.now) new
    → HoldsFirst lists us i old → HoldsFirst lists us (i + 1) new
first_more lists us i x old new within is kept added before j u low e = ⊎_elim
    (λ h. λ k m. kept k (before j u h e k m))
    (λ (d : j ≡ i).
    let same : x ≡ u = is ∙ same_at us i x u within ∙ sym (ap (λ (n : ℕ). get_or us n u) d) ∙ e in
    subst (λ (v : Bor Uid). Holds (list_at lists v.now) new) same added)
    (less_or_same j i low)

pub first_all : (lists : Lists) (us : List (Bor Uid)) (i : ℕ) (ks : List ℕ) → length us ≤ i → HoldsFirst lists us i ks → (u : Bor Uid) → Contains us u → Holds (list_at lists u.now) ks
first_all lists us i ks past by u (j, low, e) = by j u (omega arith) e

-- what is in a list of references
pub lent_at : (us : List (Bor Uid)) (v : Uid) → Contains (map (λ u. u.now) us) v → (u : Bor Uid) × Contains us u × (u.now ≡ v)
lent_at [] v (j, low, e) = absurd (omega arith)
lent_at (u ∷ us) v (zero, low, e) = (u, (zero, omega arith, refl), e)
lent_at (u ∷ us) v (suc j, low, e) =
    let r = lent_at us v (j, omega arith, e) in
    (r.0, (suc r.1.0, omega (arith, r.1.1), r.1.2), r.2)
