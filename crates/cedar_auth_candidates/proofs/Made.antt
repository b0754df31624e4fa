-- What was made for digests, and one more.
use Rattle.std.proofs.Common.{◌≡◌, ℕ, ◌<◌, [], ◌∷◌, Some, refl, sym, ap, subst, ◌∙◌}
use Rattle.std.proofs.lemmas.Cmp.{nat_cmp_total, ranked}
use Rattle.std.specs.BTreeMap.{BTreeMap, get, is_at, Updates}
use Rattle.std.specs.Map.{lookup}
use Rattle.std.specs.Ordering.{MatchOrdering, nat_cmp}
use Rattle.std.specs.declared.cmp.Ordering.{Ordering}
use Rattle.std.specs.declared.cmp.Ordering.TheVariants.{Equal}
use Rattle.base_reach.proofs.Listed.{nowhere}
use Rattle.cedar_auth_candidates.proofs.Makings.{making_more}

nat_same : (a b : ℕ) → nat_cmp a b ≡ Equal → a ≡ b
nat_same a b e = subst (λ (r : Ordering). MatchOrdering r (a < b) (a ≡ b) (b < a)) e (ranked a b (nat_cmp a b) refl)

-- what holds of all that was made holds of it and of one more
pub more_made : {V : Type 0} (P : V → Type 0) (old new : BTreeMap ℕ V) (n : ℕ) (v : V) → Updates nat_cmp old new n (Some v) → P v → ((k : ℕ) (x : V) → get nat_cmp old k ≡ Some x → P x)
    → (k : ℕ) (x : V) → get nat_cmp new k ≡ Some x → P x
more_made P old new n v updates here before =
    (making_more nat_cmp_total nat_same (λ _ x. P x) old new (n ∷ []) [] [] n v refl updates here (record { right = before; there = λ k m. absurd (nowhere k m) })).right

-- what holds of all that was made holds of it where nothing is put
pub same_made : {V : Type 0} (P : V → Type 0) (old new : BTreeMap ℕ V) → new.entries ≡ old.entries → ((k : ℕ) (x : V) → get nat_cmp old k ≡ Some x → P x) → (k : ℕ) (x : V) → get nat_cmp new k ≡ Some x → P x
same_made P old new e before k x h = before k x (ap (lookup (is_at (nat_cmp k))) (sym e) ∙ h)
