-- Policies without faults are accepted, and a report with faults is one of policies that have some.
use Rattle.std.proofs.Common.{◌≡◌, ◌≢◌, List, [], ◌∷◌, map, length, arith, refl, sym, subst, ◌∙◌}
use Rattle.cedar_ast.specs.PolicyTree.{PolicyTree}
use Rattle.cedar_schema_spec.specs.SchemaTree.{SchemaTree}
use Rattle.cedar_check_spec.specs.Determined.{AcceptedHaveNoFaultWith, ReportIsOneWith}
use Rattle.cedar_check_spec.specs.Reports.{FaultTree, AreFaultsWith}
use Rattle.cedar_check_spec.specs.declared.settings.Settings.{Settings}
use Rattle.cedar_auth_spec.specs.Validation.{IsValidatedWith}

-- a list that shows nothing, and one that shows something
shows_none : {A B : Type 0} (f : A → B) (xs : List A) → length xs ≡ 0 → map f xs ≡ []
shows_none f [] n = refl
shows_none f (x ∷ xs) n = absurd (omega arith)

shows_some : {A B : Type 0} (f : A → B) (xs : List A) → length xs ≢ 0 → map f xs ≢ []
shows_some f [] n = absurd (n refl)
shows_some f (x ∷ xs) n = λ e. cc

module _ {A : Type 0} (view : A → FaultTree) (settings : Settings) (s : SchemaTree) (ps : List PolicyTree) (xs : List A) where
  pub validated : AcceptedHaveNoFaultWith settings → AreFaultsWith settings s ps (map view xs) → length xs ≡ 0 → IsValidatedWith settings s ps
  validated law h n = record { each = (law s ps).0 (subst (AreFaultsWith settings s ps) (shows_none view xs n) h) }

  pub some_fault : ReportIsOneWith settings → AreFaultsWith settings s ps (map view xs) → length xs ≢ 0 → ¬ AreFaultsWith settings s ps []
  some_fault law h n = λ none. let one = (law s ps).0.2 in shows_some view xs n (one (map view xs) h ∙ sym (one [] none))
