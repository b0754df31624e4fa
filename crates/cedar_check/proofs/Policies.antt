-- Faults and warnings of one more policy.
use Rattle.std.proofs.Common.{◌≡◌, Bool, true, false, ℕ, zero, suc, ◌<◌, ◌+◌, List, [], ◌∷◌, ◌++◌, cond, length, map, take, add-one, Some, None, arith, refl, ap, sym, subst, ◌∙◌}
use Rattle.std.specs.Prelude.{filter, slice_get}
use Rattle.std.proofs.Math.Seq.{take-suc}
use Rattle.std.proofs.lemmas.Option.{slice_get_within, get_or_from_slice_get}
use Rattle.cedar_ast.specs.PolicyTree.{PolicyTree}
use Rattle.cedar_schema_spec.specs.SchemaTree.{SchemaTree}
use Rattle.cedar_check_spec.specs.Private.Reporting.{faults_of_with, all_faults_with, is_impossible_with, warnings_with}
use Rattle.cedar_check_spec.specs.Reports.{FaultTree, AreFaultsWith, AreWarningsWith}
use Rattle.cedar_check_spec.specs.declared.settings.Settings.{Settings}
use Rattle.cedar_check_law.proofs.Reports.{are_faults, are_warnings, faults_are, warnings_are}
use Rattle.cedar_check.proofs.Environments.{nil_right}

pub together : {A : Type 0} (xs ys zs : List A) → (xs ++ ys) ++ zs ≡ xs ++ (ys ++ zs)
together [] ys zs = refl
together (x ∷ xs) ys zs = ap (λ l. x ∷ l) (together xs ys zs)

first_warned : (settings : Settings) (s : SchemaTree) (p : PolicyTree) (ps : List PolicyTree) (b : Bool) → is_impossible_with settings s p ≡ b → cond b (p.id ∷ []) [] ++ warnings_with settings s ps ≡ warnings_with settings s (p ∷ ps)
first_warned settings s p ps true e = sym (ap (λ b. map (λ (q : PolicyTree). q.id) (cond b (p ∷ filter (is_impossible_with settings s) ps) (filter (is_impossible_with settings s) ps))) e)
first_warned settings s p ps false e = sym (ap (λ b. map (λ (q : PolicyTree). q.id) (cond b (p ∷ filter (is_impossible_with settings s) ps) (filter (is_impossible_with settings s) ps))) e)

module _ (settings : Settings) (s : SchemaTree) where
  all_faults_more : (ps : List PolicyTree) (p : PolicyTree) → all_faults_with settings s (ps ++ p ∷ []) ≡ all_faults_with settings s ps ++ faults_of_with settings s p
  all_faults_more [] p = nil_right (faults_of_with settings s p)
  all_faults_more (q ∷ ps) p =
      ap (λ l. faults_of_with settings s q ++ l) (all_faults_more ps p)
      ∙ sym (together (faults_of_with settings s q) (all_faults_with settings s ps) (faults_of_with settings s p))

  pub more_faults : (ps : List PolicyTree) (p : PolicyTree) (old new : List FaultTree) → new ≡ old ++ faults_of_with settings s p → AreFaultsWith settings s ps old → AreFaultsWith settings s (ps ++ p ∷ []) new
  more_faults ps p old new more h =
      subst (AreFaultsWith settings s (ps ++ p ∷ []))
      (all_faults_more ps p ∙ ap (λ l. l ++ faults_of_with settings s p) (sym (faults_are settings s h)) ∙ sym more)
      (are_faults settings s (ps ++ p ∷ []))

  all_warnings_more : (ps : List PolicyTree) (p : PolicyTree) → warnings_with settings s (ps ++ p ∷ []) ≡ warnings_with settings s ps ++ cond (is_impossible_with settings s p) (p.id ∷ []) []
  all_warnings_more [] p =
      sym (first_warned settings s p [] (is_impossible_with settings s p) refl)
      ∙ nil_right (cond (is_impossible_with settings s p) (p.id ∷ []) [])
  all_warnings_more (q ∷ ps) p =
      let last = cond (is_impossible_with settings s p) (p.id ∷ []) [] in
      let first = cond (is_impossible_with settings s q) (q.id ∷ []) [] in
      sym (first_warned settings s q (ps ++ p ∷ []) (is_impossible_with settings s q) refl)
      ∙ ap (λ l. first ++ l) (all_warnings_more ps p)
      ∙ sym (together first (warnings_with settings s ps) last)
      ∙ ap (λ l. l ++ last) (first_warned settings s q ps (is_impossible_with settings s q) refl)

  pub more_warnings : (ps : List PolicyTree) (p : PolicyTree) (old new : List (List ℕ)) → new ≡ old ++ cond (is_impossible_with settings s p) (p.id ∷ []) [] → AreWarningsWith settings s ps old → AreWarningsWith settings s (ps ++ p ∷ []) new
  more_warnings ps p old new more h =
      subst (AreWarningsWith settings s (ps ++ p ∷ []))
      (all_warnings_more ps p ∙ ap (λ l. l ++ cond (is_impossible_with settings s p) (p.id ∷ []) []) (sym (warnings_are settings s h)) ∙ sym more)
      (are_warnings settings s (ps ++ p ∷ []))

-- one policy more
pub take_got : (ps : List PolicyTree) (i : ℕ) (p : PolicyTree) → slice_get ps i ≡ Some p → take (i + 1) ps ≡ take i ps ++ p ∷ []
take_got ps i p e =
    rw add-one (take-suc ps i p (slice_get_within ps i p e) ∙ ap (λ q. take i ps ++ q ∷ []) (get_or_from_slice_get ps i p p e))

pub not_past : (ps : List PolicyTree) (i : ℕ) → slice_get ps i ≡ None → i < length ps → ⊥
not_past [] i e lt = absurd (omega arith)
not_past (p ∷ ps) zero e lt = cc
not_past (p ∷ ps) (suc i) e lt = not_past ps i e (omega arith)
