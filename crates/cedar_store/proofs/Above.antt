-- What lies above an entity, by a test of it: the answers that contracts give.
use Rattle.std.proofs.Common.{◌≡◌, ◌↔◌, ℕ, Bool, true, false, ◌||◌, List, [], ◌∷◌, Some, refl, sym, ap, subst, ◌∙◌, Contains, IsTrue}
use Rattle.std.specs.Bool.{one_answer}
use Rattle.std.specs.List.{slice_get, list_any}
use Rattle.std.proofs.lemmas.List.Folds.{Any-from_list_any, list_any_at}
use Rattle.base_reach.proofs.Chains.{first_link}
use Rattle.cedar_value.proofs.Reach.{below-Decides}
use Rattle.cedar_value.specs.Datum.{Datum, boolean, long, text, uid, set, record_of, extension}
use Rattle.cedar_value.specs.World.{World, Below, below, below_any, below_datum}
use Rattle.cedar_value.specs.declared.uid.Uid.{Uid}
use Rattle.cedar_store.specs.Entities.{uids_of}
use Rattle.cedar_store.specs.Private.Kept.{AreAncestors, has_datum}
use Rattle.cedar_store.proofs.Places.{listed}

pub nothing_above : (w : World) (u : Uid) → ((k : ℕ) → slice_get (uids_of w) k ≡ Some u → ⊥) → (v : Uid) → ¬ Below w u v
nothing_above w u absent v b = let first = first_link b in let place = listed w u first.0 first.1 in absent place.0 place.1

pub chain_told : (w : World) (u v : Uid) (s : Uid → Bool) (b : Bool) → AreAncestors w u s → b ≡ s v → IsTrue b ↔ Below w u v
chain_told w u v s b h is = (λ t. (h v).0 (sym is ∙ t), λ c. is ∙ (h v).1 c)

pub chain_nothing : (w : World) (u : Uid) → ((v : Uid) → ¬ Below w u v) → (v : Uid) → IsTrue false ↔ Below w u v
chain_nothing w u none v = (λ h. absurd (cc), λ b. absurd (none v b))

pub any_chain_nothing : (w : World) (u : Uid) (ds : List Datum) → ((v : Uid) → ¬ Below w u v) → IsTrue false ↔ ((v : Uid) × Contains ds (uid v) × Below w u v)
any_chain_nothing w u ds none = (λ h. absurd (cc), λ c. absurd (none c.0 c.2))

-- ---- the answers, by the test that evaluation computes with

pub below-ancestors : (w : World) (u v : Uid) (s : Uid → Bool) → AreAncestors w u s → s v ≡ below w u v
below-ancestors w u v s h = one_answer _ _ (h v) (below-Decides w u v)

pub below-nothing : (w : World) (u : Uid) → ((v : Uid) → ¬ Below w u v) → (v : Uid) → false ≡ below w u v
below-nothing w u h v = one_answer false (below w u v) (λ e. absurd (cc), λ b. absurd (h v b)) (below-Decides w u v)

below_datum-ancestors : (w : World) (u : Uid) (s : Uid → Bool) → AreAncestors w u s → (d : Datum) → has_datum s d ≡ below_datum w u d
below_datum-ancestors w u s h (uid v) = below-ancestors w u v s h
below_datum-ancestors w u s h (boolean b) = refl
below_datum-ancestors w u s h (long n) = refl
below_datum-ancestors w u s h (text t) = refl
below_datum-ancestors w u s h (set ms) = refl
below_datum-ancestors w u s h (record_of fs) = refl
below_datum-ancestors w u s h (extension e) = refl

pub below_any-ancestors : (w : World) (u : Uid) (s : Uid → Bool) → AreAncestors w u s → (ds : List Datum) → list_any (has_datum s) ds ≡ below_any w u ds
below_any-ancestors w u s h [] = refl
below_any-ancestors w u s h (d ∷ ds) = ap (λ b. b || list_any (has_datum s) ds) (below_datum-ancestors w u s h d) ∙ ap (λ b. below_datum w u d || b) (below_any-ancestors w u s h ds)

below_datum-nothing : (w : World) (u : Uid) → ((v : Uid) → ¬ Below w u v) → (d : Datum) → false ≡ below_datum w u d
below_datum-nothing w u h (uid v) = below-nothing w u h v
below_datum-nothing w u h (boolean b) = refl
below_datum-nothing w u h (long n) = refl
below_datum-nothing w u h (text t) = refl
below_datum-nothing w u h (set ms) = refl
below_datum-nothing w u h (record_of fs) = refl
below_datum-nothing w u h (extension e) = refl

pub below_any-nothing : (w : World) (u : Uid) → ((v : Uid) → ¬ Below w u v) → (ds : List Datum) → false ≡ below_any w u ds
below_any-nothing w u h [] = refl
below_any-nothing w u h (d ∷ ds) = below_any-nothing w u h ds ∙ ap (λ b. b || below_any w u ds) (below_datum-nothing w u h d)

is_uid : (s : Uid → Bool) (d : Datum) → has_datum s d ≡ true → (v : Uid) × (d ≡ uid v) × (s v ≡ true)
is_uid s (uid v) h = (v, refl, h)
is_uid s (boolean b) h = cc
is_uid s (long n) h = cc
is_uid s (text t) h = cc
is_uid s (set ms) h = cc
is_uid s (record_of fs) h = cc
is_uid s (extension e) h = cc

pub any_chain : (w : World) (u : Uid) (s : Uid → Bool) (ds : List Datum) → AreAncestors w u s → (b : Bool) → b ≡ list_any (has_datum s) ds → IsTrue b ↔ ((v : Uid) × Contains ds (uid v) × Below w u v)
any_chain w u s ds h b is = (
  λ t. (let some = Any-from_list_any (has_datum s) ds (sym is ∙ t) in
      let named = is_uid s some.1 some.4 in
      (named.0, subst (Contains ds) named.1 (some.0, some.2, some.3), (h named.0).0 named.2)),
  λ c. is ∙ list_any_at (has_datum s) ds c.1.0 (uid c.0) c.1.1 (ap (has_datum s) c.1.2 ∙ (h c.0).1 c.2),
)

-- ---- the answers, from what chains say

pub below-chain : (w : World) (u v : Uid) (b : Bool) → IsTrue b ↔ Below w u v → b ≡ below w u v
below-chain w u v b told = one_answer b (below w u v) told (below-Decides w u v)

pub below_any-chain : (w : World) (u : Uid) (ds : List Datum) (b : Bool) → IsTrue b ↔ ((v : Uid) × Contains ds (uid v) × Below w u v) → b ≡ below_any w u ds
below_any-chain w u ds b told =
    one_answer b (below_any w u ds) told (any_chain w u (below w u) ds (below-Decides w u) (below_any w u ds) (sym (below_any-ancestors w u (below w u) (below-Decides w u) ds)))
