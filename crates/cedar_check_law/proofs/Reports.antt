-- Reports: the relations hold of the computed lists, and of no others.
use Rattle.std.proofs.Common.{◌≡◌, Bool, true, false, cond, ◌&&◌, ⊎_elim, List, [], ◌∷◌, ◌++◌, ℕ, Contains, Option, Some, None, refl, sym, ap, ap₂, subst, ◌∙◌}
use Rattle.std.specs.Prelude.{is_some, map, filter}
use Rattle.std.specs.List.{list_all}
use Rattle.cedar_ast.specs.PolicyTree.{PolicyTree}
use Rattle.cedar_schema_types.specs.declared.truth.Truth.{Truth}
use Rattle.cedar_schema_types.specs.declared.truth.Truth.TheVariants.{False}
use Rattle.cedar_schema_spec.specs.declared.environment.Environment.{Environment}
use Rattle.cedar_schema_spec.specs.SchemaTree.{SchemaTree, environments_of}
use Rattle.cedar_check_spec.specs.Acceptance.{HasFormWith, IsAcceptedInWith, IsAcceptedWith, IsImpossibleWith}
use Rattle.cedar_check_spec.specs.Determined.{ReportIsOneWith, AcceptedHaveNoFaultWith, ImpossibleHasNoFaultWith}
use Rattle.cedar_check_spec.specs.Private.Checking.{form_in_with}
use Rattle.cedar_check_spec.specs.Private.Reporting.{faults_in_with, faults_of_with, all_faults_with, is_known_false, is_impossible_with, warnings_with}
use Rattle.cedar_check_spec.specs.Reports.{FaultTree, fault_at, AreFaultsInWith, in_none, in_accepted, in_refused, AreFaultsWith, of_none, of_more, AreWarningsWith, on_none, on_satisfiable, on_impossible}
use Rattle.base_reach.proofs.Listed.{here, there, first_or_later, nowhere, both_true}
use Rattle.cedar_check_law.proofs.Exact.{form_is_found}
use Rattle.cedar_check_spec.specs.declared.settings.Settings.{Settings}

module _ (settings : Settings) (s : SchemaTree) where
  module _ (p : PolicyTree) where
    -- ---- where the policy is accepted

    form_there : (env : Environment) (o : Option Truth) → form_in_with settings s env p ≡ o → is_some o ≡ true → IsAcceptedInWith settings s env p
    form_there env None e h = cc
    form_there env (Some f) e h = (f, (form_is_found settings s env p f).1 e)

    there_form : (env : Environment) → IsAcceptedInWith settings s env p → is_some (form_in_with settings s env p) ≡ true
    there_form env h = ap is_some ((form_is_found settings s env p h.0).0 h.1)

    no_form : (env : Environment) (b : Bool) → is_some (form_in_with settings s env p) ≡ b → ¬ IsAcceptedInWith settings s env p → b ≡ false
    no_form env true e n = absurd (n (form_there env (form_in_with settings s env p) refl e))
    no_form env false e n = refl

    -- ---- faults in environments

    next_is : (env : Environment) (envs : List Environment) (faults : List FaultTree) (b : Bool) → is_some (form_in_with settings s env p) ≡ b → AreFaultsInWith settings s p envs faults
        → AreFaultsInWith settings s p (env ∷ envs) (cond b faults (fault_at p env ∷ faults))
    next_is env envs faults true e d = in_accepted (form_there env (form_in_with settings s env p) refl e) d
    next_is env envs faults false e d = in_refused (λ h. let there_is = there_form env h in let c : true ≡ false = sym there_is ∙ e in cc) d

    pub are_faults_in : (envs : List Environment) → AreFaultsInWith settings s p envs (faults_in_with settings s p envs)
    are_faults_in [] = in_none
    are_faults_in (env ∷ envs) = next_is env envs (faults_in_with settings s p envs) (is_some (form_in_with settings s env p)) refl (are_faults_in envs)

    pub faults_in_are : {envs : List Environment} {faults : List FaultTree} → AreFaultsInWith settings s p envs faults → faults ≡ faults_in_with settings s p envs
    faults_in_are in_none = refl
    faults_in_are (in_accepted {env = env} {envs = envs} h d) =
        faults_in_are d ∙ sym (ap (λ b. cond b (faults_in_with settings s p envs) (fault_at p env ∷ faults_in_with settings s p envs)) (there_form env h))
    faults_in_are (in_refused {env = env} {envs = envs} n d) =
        ap (λ l. fault_at p env ∷ l) (faults_in_are d)
        ∙ sym (ap (λ b. cond b (faults_in_with settings s p envs) (fault_at p env ∷ faults_in_with settings s p envs)) (no_form env (is_some (form_in_with settings s env p)) refl n))

    all_accepted : (envs : List Environment) → ((env : Environment) → Contains envs env → IsAcceptedInWith settings s env p) → AreFaultsInWith settings s p envs []
    all_accepted [] h = in_none
    all_accepted (env ∷ envs) h = in_accepted (h env (here env envs)) (all_accepted envs (λ x m. h x (there env envs x m)))

    step_back : (b : Bool) (f : FaultTree) (rest : List FaultTree) → cond b rest (f ∷ rest) ≡ [] → (b ≡ true) × (rest ≡ [])
    step_back true f rest e = (refl, e)
    step_back false f rest e = cc

    accepted_in_all : (envs : List Environment) → faults_in_with settings s p envs ≡ [] → (env : Environment) → Contains envs env → IsAcceptedInWith settings s env p
    accepted_in_all [] e x m = absurd (nowhere x m)
    accepted_in_all (env ∷ envs) e x m =
        let r = step_back (is_some (form_in_with settings s env p)) (fault_at p env) (faults_in_with settings s p envs) e in
        ⊎_elim (λ d. subst (λ (y : Environment). IsAcceptedInWith settings s y p) d (form_there env (form_in_with settings s env p) refl r.0)) (λ n. accepted_in_all envs r.1 x n) (first_or_later env envs x m)

    pub accepted_without_fault : faults_of_with settings s p ≡ [] → IsAcceptedWith settings s p
    accepted_without_fault e = accepted_in_all (environments_of s.actions) e

    pub no_fault_of : IsAcceptedWith settings s p → AreFaultsInWith settings s p (environments_of s.actions) []
    no_fault_of h = all_accepted (environments_of s.actions) h

    -- ---- impossible policies

    known : (o : Option Truth) → is_known_false o ≡ true → o ≡ Some False
    known (Some False) e = refl
    known _ e = cc

    all_false : (envs : List Environment) → list_all (λ env. is_known_false (form_in_with settings s env p)) envs ≡ true → (env : Environment) → Contains envs env → HasFormWith settings s env p False
    all_false [] e x m = absurd (nowhere x m)
    all_false (env ∷ envs) e x m =
        let r = both_true (is_known_false (form_in_with settings s env p)) (list_all (λ env. is_known_false (form_in_with settings s env p)) envs) e in
        ⊎_elim (λ d. subst (λ (y : Environment). HasFormWith settings s y p False) d ((form_is_found settings s env p False).1 (known (form_in_with settings s env p) r.0))) (λ n. all_false envs r.1 x n) (first_or_later env envs x m)

    false_all : (envs : List Environment) → ((env : Environment) → Contains envs env → HasFormWith settings s env p False) → list_all (λ env. is_known_false (form_in_with settings s env p)) envs ≡ true
    false_all [] h = refl
    false_all (env ∷ envs) h =
        ap (λ o. is_known_false o && list_all (λ env. is_known_false (form_in_with settings s env p)) envs) ((form_is_found settings s env p False).0 (h env (here env envs)))
        ∙ false_all envs (λ x m. h x (there env envs x m))

    pub impossible : is_impossible_with settings s p ≡ true → IsImpossibleWith settings s p
    impossible e = all_false (environments_of s.actions) e

    pub told_impossible : IsImpossibleWith settings s p → is_impossible_with settings s p ≡ true
    told_impossible h = false_all (environments_of s.actions) h

    pub satisfiable : (b : Bool) → is_impossible_with settings s p ≡ b → ¬ IsImpossibleWith settings s p → b ≡ false
    satisfiable true e n = absurd (n (impossible e))
    satisfiable false e n = refl

    pub not_impossible : is_impossible_with settings s p ≡ false → ¬ IsImpossibleWith settings s p
    not_impossible e = λ h. let there_is = told_impossible h in let c : true ≡ false = sym there_is ∙ e in cc

    pub impossible_without_fault : IsImpossibleWith settings s p → AreFaultsInWith settings s p (environments_of s.actions) []
    impossible_without_fault h = no_fault_of (λ env m. (False, h env m))

  -- ---- faults of policies

  pub are_faults : (ps : List PolicyTree) → AreFaultsWith settings s ps (all_faults_with settings s ps)
  are_faults [] = of_none
  are_faults (p ∷ ps) = of_more (are_faults_in p (environments_of s.actions)) (are_faults ps)

  pub faults_are : {ps : List PolicyTree} {faults : List FaultTree} → AreFaultsWith settings s ps faults → faults ≡ all_faults_with settings s ps
  faults_are of_none = refl
  faults_are (of_more {p = p} d r) = ap₂ ◌++◌ (faults_in_are p d) (faults_are r)

  both_empty : (xs ys : List FaultTree) → xs ++ ys ≡ [] → (xs ≡ []) × (ys ≡ [])
  both_empty [] ys e = (refl, e)
  both_empty (x ∷ xs) ys e = cc

  accepted_where_none : (ps : List PolicyTree) → all_faults_with settings s ps ≡ [] → (p : PolicyTree) → Contains ps p → IsAcceptedWith settings s p
  accepted_where_none [] e p m = absurd (nowhere p m)
  accepted_where_none (x ∷ xs) e p m =
      let d = both_empty (faults_of_with settings s x) (all_faults_with settings s xs) e in
      ⊎_elim
      (λ i. subst (λ (y : PolicyTree). IsAcceptedWith settings s y) i (accepted_without_fault x d.0))
      (λ r. accepted_where_none xs d.1 p r)
      (first_or_later x xs p m)

  none_where_accepted : (ps : List PolicyTree) → ((p : PolicyTree) → Contains ps p → IsAcceptedWith settings s p) → AreFaultsWith settings s ps []
  none_where_accepted [] h = of_none
  none_where_accepted (p ∷ ps) h = of_more (no_fault_of p (h p (here p ps))) (none_where_accepted ps (λ x m. h x (there p ps x m)))

  -- ---- warnings

  next_warned : (p : PolicyTree) (ps : List PolicyTree) (ids : List (List ℕ)) (b : Bool) → is_impossible_with settings s p ≡ b → AreWarningsWith settings s ps ids
      → AreWarningsWith settings s (p ∷ ps) (cond b (p.id ∷ ids) ids)
  next_warned p ps ids true e d = on_impossible (impossible p e) d
  next_warned p ps ids false e d = on_satisfiable (not_impossible p e) d

  with_id : (p : PolicyTree) (rest : List PolicyTree) (b : Bool) → cond b (p.id ∷ map (λ (q : PolicyTree). q.id) rest) (map (λ (q : PolicyTree). q.id) rest) ≡ map (λ (q : PolicyTree). q.id) (cond b (p ∷ rest) rest)
  with_id p rest true = refl
  with_id p rest false = refl

  first_warned : (p : PolicyTree) (ps : List PolicyTree) → cond (is_impossible_with settings s p) (p.id ∷ warnings_with settings s ps) (warnings_with settings s ps) ≡ warnings_with settings s (p ∷ ps)
  first_warned p ps = with_id p (filter (is_impossible_with settings s) ps) (is_impossible_with settings s p)

  pub are_warnings : (ps : List PolicyTree) → AreWarningsWith settings s ps (warnings_with settings s ps)
  are_warnings [] = on_none
  are_warnings (p ∷ ps) = subst (AreWarningsWith settings s (p ∷ ps)) (first_warned p ps) (next_warned p ps (warnings_with settings s ps) (is_impossible_with settings s p) refl (are_warnings ps))

  pub warnings_are : {ps : List PolicyTree} {ids : List (List ℕ)} → AreWarningsWith settings s ps ids → ids ≡ warnings_with settings s ps
  warnings_are on_none = refl
  warnings_are (on_satisfiable {p = p} {ps = ps} n d) =
      warnings_are d
      ∙ sym (ap (λ b. cond b (p.id ∷ warnings_with settings s ps) (warnings_with settings s ps)) (satisfiable p (is_impossible_with settings s p) refl n))
      ∙ first_warned p ps
  warnings_are (on_impossible {p = p} {ps = ps} h d) =
      ap (λ l. p.id ∷ l) (warnings_are d)
      ∙ sym (ap (λ b. cond b (p.id ∷ warnings_with settings s ps) (warnings_with settings s ps)) (told_impossible p h))
      ∙ first_warned p ps

pub report_is_one : (settings : Settings) → ReportIsOneWith settings
report_is_one settings s ps = (
  (all_faults_with settings s ps, are_faults settings s ps, λ faults d. faults_are settings s d),
  (warnings_with settings s ps, are_warnings settings s ps, λ ids d. warnings_are settings s d),
)

pub accepted_have_no_fault : (settings : Settings) → AcceptedHaveNoFaultWith settings
accepted_have_no_fault settings s ps = (λ d. accepted_where_none settings s ps (sym (faults_are settings s d)), none_where_accepted settings s ps)

pub impossible_has_no_fault : (settings : Settings) → ImpossibleHasNoFaultWith settings
impossible_has_no_fault settings s p = impossible_without_fault settings s p
