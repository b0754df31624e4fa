-- Ascending positions that miss no policy that is satisfied or errs are a part to run.
use Rattle.std.proofs.Common.{◌≡◌, ◌⊎◌, ℕ, zero, suc, ◌<◌, ◌≤◌, false, List, [], ◌∷◌, length, drop, Option, Some, Contains, refl, sym, ap, subst, ◌∙◌, arith}
use mathlib.Core.Logic.{inl, inr}
use Rattle.std.specs.List.{All, slice_get, cons_option}
use Rattle.std.proofs.lemmas.List.Elements.{All-nil, All-cons, Contains-append_cases, Contains-push_cases}
use Rattle.cedar_value.specs.World.{World}
use Rattle.cedar_value.specs.declared.request.Request.{Request}
use Rattle.cedar_ast.specs.PolicyTree.{PolicyTree}
use Rattle.cedar_ast.specs.Response.{meaning}
use Rattle.cedar_auth_spec.specs.Candidates.{Ascend, OthersAreFalse}
use Rattle.cedar_service_law.specs.Jobs.{tells, IsPartToRun, none_to_run, runs, leaves_out}
use Rattle.cedar_service.specs.Private.Parts.{policies_at}

contains_none : {X : Type 0} → (x : X) → Contains [] x → ⊥
contains_none x c = omega (arith, c.1)

first_or_more : (k : ℕ) (ks : List ℕ) (j : ℕ) → Contains (k ∷ ks) j → (k ≡ j) ⊎ Contains ks j
first_or_more k ks j c = by (Contains-append_cases (k ∷ []) ks j c)
  where
    one : Contains [] j ⊎ (k ≡ j) → k ≡ j
    one (inl none) = absurd (contains_none j none)
    one (inr e) = e

    by : Contains (k ∷ []) j ⊎ Contains ks j → (k ≡ j) ⊎ Contains ks j
    by (inl first) = inl (one (Contains-push_cases [] k j first))
    by (inr more) = inr more

below_all : (ks : List ℕ) (low high j : ℕ) → Ascend low high ks → j < low → Contains ks j → ⊥
below_all [] low high j up h c = contains_none j c
below_all (k ∷ ks) low high j up h c = by (first_or_more k ks j c) (below_all ks (suc k) high j up.2 (omega (arith, up.0)))
  where
    by : (k ≡ j) ⊎ Contains ks j → (Contains ks j → ⊥) → ⊥
    by (inl e) more = omega (arith, e, up.0, h)
    by (inr c) more = more c

at_drop : (all : List PolicyTree) (i : ℕ) (p : PolicyTree) (rest : List PolicyTree) → drop i all ≡ p ∷ rest → (slice_get all i ≡ Some p) × (drop (suc i) all ≡ rest)
at_drop [] zero p rest e = absurd (cc e)
at_drop [] (suc i) p rest e = absurd (cc e)
at_drop (x ∷ xs) zero p rest e =
    let first : x ≡ p = cc e in
    let behind : xs ≡ rest = cc e in
    (ap Some first, behind)
at_drop (x ∷ xs) (suc i) p rest e = at_drop xs i p rest e

no_more : (all : List PolicyTree) (i : ℕ) → drop i all ≡ [] → length all ≤ i
no_more [] i e = omega arith
no_more (x ∷ xs) zero e = absurd (cc e)
no_more (x ∷ xs) (suc i) e = omega (arith, no_more xs i e)

same_or_more : (i k : ℕ) → i ≤ k → (k ≡ i) ⊎ (i < k)
same_or_more i k h = grind arith

module _ (q : Request) (w : World) (all : List PolicyTree) where
  -- whoever is not at one of the positions, from this one on, does not tell
  abbrev pub MissesNone : ℕ → List ℕ → Type 0
  MissesNone i ks = (j : ℕ) (p : PolicyTree) → i ≤ j → slice_get all j ≡ Some p → (Contains ks j → ⊥) → tells (meaning q w p) ≡ false

  part_from : (ps : List PolicyTree) (i : ℕ) (ks : List ℕ) → drop i all ≡ ps → Ascend i (length all) ks → MissesNone i ks → IsPartToRun q w (policies_at all ks) ps
  part_from [] i [] e up misses = none_to_run
  part_from [] i (k ∷ ks) e up misses = absurd (omega (arith, up.0, up.1, no_more all i e))
  part_from (p ∷ ps) i [] e up misses =
      let d = at_drop all i p ps e in
      leaves_out p [] ps (misses i p (omega arith) d.0 (contains_none i)) (part_from ps (suc i) [] d.1 tt (λ j x low. misses j x (omega (arith, low))))
  part_from (p ∷ ps) i (k ∷ ks) e up misses = by (same_or_more i k up.0) (part_from ps (suc i))
    where
      d : (slice_get all i ≡ Some p) × (drop (suc i) all ≡ ps)
      d = at_drop all i p ps e

      behind_first : (j : ℕ) → suc i ≤ j → k ≡ i → (Contains ks j → ⊥) → Contains (k ∷ ks) j → ⊥
      behind_first j low same out c = one (first_or_more k ks j c)
        where
          one : (k ≡ j) ⊎ Contains ks j → ⊥
          one (inl e) = omega (arith, e, same, low)
          one (inr c) = out c

      by : (k ≡ i) ⊎ (i < k)
          → ((ks : List ℕ) → drop (suc i) all ≡ ps → Ascend (suc i) (length all) ks → MissesNone (suc i) ks → IsPartToRun q w (policies_at all ks) ps)
          → IsPartToRun q w (policies_at all (k ∷ ks)) (p ∷ ps)
      by (inl same) more =
          let here : slice_get all k ≡ Some p = ap (slice_get all) same ∙ d.0 in
          let behind : Ascend (suc i) (length all) ks = subst (λ (n : ℕ). Ascend (suc n) (length all) ks) same up.2 in
          subst (λ (o : Option PolicyTree). IsPartToRun q w (cons_option o (policies_at all ks)) (p ∷ ps)) (sym here)
          (runs p (policies_at all ks) ps (more ks d.1 behind (λ j x low at out. misses j x (omega (arith, low)) at (behind_first j low same out))))
      by (inr less) more =
          let from : Ascend (suc i) (length all) (k ∷ ks) = (omega (arith, less), up.1, up.2) in
          leaves_out p (policies_at all (k ∷ ks)) ps (misses i p (omega arith) d.0 (below_all (k ∷ ks) (suc i) (length all) i from (omega arith)))
          (more (k ∷ ks) d.1 from (λ j x low. misses j x (omega (arith, low))))

within : (ks : List ℕ) (low high : ℕ) → Ascend low high ks → All (λ k. k < high) ks
within [] low high up = All-nil (λ (k : ℕ). k < high)
within (k ∷ ks) low high up = All-cons (λ (k : ℕ). k < high) k ks up.1 (within ks (suc k) high up.2)

-- the candidates are positions of policies, and a part to run
pub candidates_within : (ps : List PolicyTree) (q : Request) (w : World) (ks : List ℕ) → OthersAreFalse ps q w ks → All (λ k. k < length ps) ks
candidates_within ps q w ks c = within ks 0 (length ps) c.ascend

pub candidates_part : (ps : List PolicyTree) (q : Request) (w : World) (ks : List ℕ) → OthersAreFalse ps q w ks → IsPartToRun q w (policies_at ps ks) ps
candidates_part ps q w ks c = part_from q w ps ps 0 ks refl c.ascend (λ j p low at out. ap tells (c.others j p at out))
