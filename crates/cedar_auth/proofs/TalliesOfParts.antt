-- What some of the policies gather is what all of them do, where the others are false.
use Rattle.std.proofs.Common.{◌≡◌, ℕ, zero, suc, ◌+◌, ◌<◌, ◌≤◌, ◌⊎◌, inl, inr, ⊎_elim, Bool, true, false, not, ◌&&◌, cond, List, [], ◌∷◌, drop, map, filter, Contains, Option, Some, None, Ok, arith, refl, sym, ap, subst, ◌∙◌, add-one}
use Rattle.std.specs.List.{slice_get, slice_index, filter_map, cons_option}
use Rattle.std.specs.List.Sorted.{IsStrictlyIncreasing}
use Rattle.cedar_value.specs.Datum.{Datum, boolean}
use Rattle.cedar_value.specs.World.{World}
use Rattle.cedar_value.specs.declared.request.Request.{Request}
use Rattle.cedar_ast_expressions.specs.Answer.{Answer}
use Rattle.cedar_ast.specs.PolicyTree.{PolicyTree}
use Rattle.cedar_ast.specs.Response.{ErringTree, meaning, is_true, is_permit, permits, forbids, erring_by, erring_of}
use Rattle.cedar_auth_spec.proofs.Ids.{ids_first}
use Rattle.cedar_auth.specs.Private.Selected.{LeavesFalse, policies_at}
use Rattle.cedar_auth.specs.Private.Tally.{TallyTree, tally_of}
use Rattle.base_reach.proofs.Listed.{first_or_later, nowhere}
use Rattle.cedar_auth.proofs.PoliciesAt.{at_drop}

same_tally : (a b c d : List (List ℕ)) (e f : List ErringTree) → a ≡ b → c ≡ d → e ≡ f
    → (let t : TallyTree = record { permits = a; forbids = c; erring = e } in t) ≡ (let t : TallyTree = record { permits = b; forbids = d; erring = f } in t)
same_tally a b c d e f p q r = cc

no_effect : (b : Bool) → (b && false) ≡ false
no_effect true = refl
no_effect false = refl

module _ (q : Request) (w : World) where
  false_permits : (p : PolicyTree) → meaning q w p ≡ Ok (boolean false) → permits q w p ≡ false
  false_permits p e = ap (λ (a : Answer Datum). is_permit p.effect && is_true a) e ∙ no_effect (is_permit p.effect)

  false_forbids : (p : PolicyTree) → meaning q w p ≡ Ok (boolean false) → forbids q w p ≡ false
  false_forbids p e = ap (λ (a : Answer Datum). not (is_permit p.effect) && is_true a) e ∙ no_effect (not (is_permit p.effect))

  false_errs_not : (p : PolicyTree) → meaning q w p ≡ Ok (boolean false) → erring_of q w p ≡ None
  false_errs_not p e = ap (λ (a : Answer Datum). erring_by a p.id) e

  -- the first policy is false
  left_out : (p : PolicyTree) (xs ps : List PolicyTree) → meaning q w p ≡ Ok (boolean false) → tally_of q w xs ≡ tally_of q w ps → tally_of q w xs ≡ tally_of q w (p ∷ ps)
  left_out p xs ps e same =
      same ∙ same_tally _ _ _ _ _ _
      (ap (λ (b : Bool). map (λ (p : PolicyTree). p.id) (cond b (p ∷ filter (permits q w) ps) (filter (permits q w) ps))) (sym (false_permits p e)))
      (ap (λ (b : Bool). map (λ (p : PolicyTree). p.id) (cond b (p ∷ filter (forbids q w) ps) (filter (forbids q w) ps))) (sym (false_forbids p e)))
      (ap (λ (o : Option ErringTree). cons_option o (filter_map (erring_of q w) ps)) (sym (false_errs_not p e)))

  -- the first policy is among them
  run_too : (p : PolicyTree) (xs ps : List PolicyTree) → tally_of q w xs ≡ tally_of q w ps → tally_of q w (p ∷ xs) ≡ tally_of q w (p ∷ ps)
  run_too p xs ps same =
      same_tally _ _ _ _ _ _
      (ids_first (permits q w p) p (filter (permits q w) xs) (filter (permits q w) ps) (ap (λ (t : TallyTree). t.permits) same))
      (ids_first (forbids q w p) p (filter (forbids q w) xs) (filter (forbids q w) ps) (ap (λ (t : TallyTree). t.forbids) same))
      (ap (λ (es : List ErringTree). cons_option (erring_of q w p) es) (ap (λ (t : TallyTree). t.erring) same))

-- positions ascend, from this one on
abbrev Rise : ℕ → List ℕ → Type 0
Rise low [] = Unit {0}
Rise low (k ∷ ks) = (low ≤ k) × Rise (suc k) ks

rise_behind : (k : ℕ) (ks : List ℕ) → IsStrictlyIncreasing (k ∷ ks) → Rise (suc k) ks
rise_behind k [] up = tt
rise_behind k (j ∷ js) up =
    let first : k < j = up 0 (omega arith) in
    let rest : IsStrictlyIncreasing (j ∷ js) = λ i low.
    subst (λ (n : ℕ). slice_index (j ∷ js) i < slice_index (j ∷ js) n) (sym (add-one i))
    (subst (λ (n : ℕ). slice_index (j ∷ js) i < slice_index (k ∷ j ∷ js) n) (add-one (suc i)) (up (suc i) (omega (arith, low)))) in
    (omega arith, rise_behind j js rest)

rises : (ks : List ℕ) → IsStrictlyIncreasing ks → Rise 0 ks
rises [] up = tt
rises (k ∷ ks) up = (omega arith, rise_behind k ks up)

rise_on : (i k : ℕ) (ks : List ℕ) → i < k → Rise i (k ∷ ks) → Rise (suc i) (k ∷ ks)
rise_on i k ks lt r = (omega arith, r.1)

rise_lower : (low high : ℕ) (ks : List ℕ) → low ≤ high → Rise high ks → Rise low ks
rise_lower low high [] le r = tt
rise_lower low high (k ∷ ks) le r = (omega (arith, r.0), r.1)

same_or_less : (i k : ℕ) → i ≤ k → (i ≡ k) ⊎ (i < k)
same_or_less zero zero le = inl refl
same_or_less zero (suc k) le = inr (omega arith)
same_or_less (suc i) zero le = absurd (omega arith)
same_or_less (suc i) (suc k) le = ⊎_elim (λ e. inl (ap suc e)) (λ lt. inr (omega arith)) (same_or_less i k (omega arith))

not_before : (i : ℕ) (ks : List ℕ) → Rise (suc i) ks → ¬ Contains ks i
not_before i [] r m = nowhere i m
not_before i (k ∷ ks) r m = ⊎_elim (λ (e : k ≡ i). absurd (omega (arith, r.0, e))) (λ h. not_before i ks (rise_lower (suc i) (suc k) ks (omega (arith, r.0)) r.1) h) (first_or_later k ks i m)

past_all : (all : List PolicyTree) (i k : ℕ) → drop i all ≡ [] → i ≤ k → slice_get all k ≡ None
past_all [] i k e le = refl
past_all (x ∷ xs) zero k e le = absurd (cc e)
past_all (x ∷ xs) (suc i) zero e le = absurd (omega arith)
past_all (x ∷ xs) (suc i) (suc k) e le = past_all xs i k e (omega arith)

-- past the last policy there is none
none_behind : (all : List PolicyTree) (i low : ℕ) (ks : List ℕ) → drop i all ≡ [] → i ≤ low → Rise low ks → policies_at all ks ≡ []
none_behind all i low [] e le r = refl
none_behind all i low (k ∷ ks) e le r =
    ap (λ (o : Option PolicyTree). cons_option o (policies_at all ks)) (past_all all i k e (omega (arith, r.0))) ∙ none_behind all i (suc k) ks e (omega (arith, r.0)) r.1

module _ (q : Request) (w : World) (all : List PolicyTree) where
  from_here : (ps : List PolicyTree) (i : ℕ) (ks : List ℕ) → drop i all ≡ ps → Rise i ks
      → ((j : ℕ) (p : PolicyTree) → i ≤ j → slice_get all j ≡ Some p → ¬ Contains ks j → meaning q w p ≡ Ok (boolean false))
      → tally_of q w (policies_at all ks) ≡ tally_of q w ps
  from_here [] i ks e r others = ap (tally_of q w) (none_behind all i i ks e (omega arith) r)
  from_here (p ∷ ps) i [] e r others =
      let d = at_drop all i p ps e in
      left_out q w p [] ps (others i p (omega arith) d.0 (nowhere i)) (from_here ps (i + 1) [] (rw add-one d.1) tt (λ j x le. others j x (omega arith)))
  from_here (p ∷ ps) i (k ∷ ks) e r others = ⊎_elim
      (λ (same : i ≡ k).
      let d = at_drop all i p ps e in
      ap (λ (o : Option PolicyTree). tally_of q w (cons_option o (policies_at all ks))) (subst (λ (j : ℕ). slice_get all j ≡ Some p) same d.0)
      ∙ run_too q w p (policies_at all ks) ps
      (from_here ps (i + 1) ks (rw add-one d.1) (rise_lower (i + 1) (suc k) ks (omega arith) r.1)
      (λ j x le at out. others j x (omega arith) at (λ m. ⊎_elim (λ (h : k ≡ j). omega arith) out (first_or_later k ks j m)))))
      (λ (lt : i < k).
      let d = at_drop all i p ps e in
      left_out q w p (policies_at all (k ∷ ks)) ps (others i p (omega arith) d.0 (not_before i (k ∷ ks) (rise_on i k ks lt r)))
      (from_here ps (i + 1) (k ∷ ks) (rw add-one d.1) (omega arith, r.1) (λ j x le. others j x (omega arith))))
      (same_or_less i k r.0)

  -- what is selected gathers what all policies do
  pub selected_gather : (ks : List ℕ) → IsStrictlyIncreasing ks → LeavesFalse all q w ks → tally_of q w (policies_at all ks) ≡ tally_of q w all
  selected_gather ks up others = from_here all 0 ks refl (rises ks up) (λ j p le. others j p)
