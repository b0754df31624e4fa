-- Faults and impossible policies, from an environment on.
use Rattle.std.proofs.Common.{◌≡◌, Bool, true, false, ◌&&◌, ℕ, ◌<◌, ◌+◌, List, [], ◌∷◌, ◌++◌, cond, length, get_or, drop, refl, ap, sym, ◌∙◌}
use Rattle.std.specs.Prelude.{is_some}
use Rattle.std.specs.List.{list_all}
use Rattle.cedar_ast.specs.PolicyTree.{PolicyTree}
use Rattle.cedar_schema_spec.specs.SchemaTree.{SchemaTree}
use Rattle.cedar_schema_spec.specs.declared.environment.Environment.{Environment}
use Rattle.cedar_check_spec.specs.Private.Checking.{form_in_with}
use Rattle.cedar_check_spec.specs.Private.Reporting.{faults_in_with, is_known_false}
use Rattle.cedar_check_spec.specs.Reports.{FaultTree, fault_at}
use Rattle.cedar_check_operators.proofs.Held.{drop_here}
use Rattle.cedar_check_spec.specs.declared.settings.Settings.{Settings}

put : (b : Bool) (x : FaultTree) (old rest : List FaultTree) → (old ++ cond b [] (x ∷ [])) ++ rest ≡ old ++ cond b rest (x ∷ rest)
put true x [] rest = refl
put false x [] rest = refl
put b x (y ∷ ys) rest = ap (λ l. y ∷ l) (put b x ys rest)

pub nil_right : {A : Type 0} (xs : List A) → xs ++ [] ≡ xs
nil_right [] = refl
nil_right (x ∷ xs) = ap (λ l. x ∷ l) (nil_right xs)

module _ (settings : Settings) (s : SchemaTree) (p : PolicyTree) where
  pub faults_step : (envs : List Environment) (i : ℕ) (env : Environment) (old new : List FaultTree) → i < length envs → env ≡ get_or envs i env → new ≡ old ++ cond (is_some (form_in_with settings s env p)) [] (fault_at p env ∷ [])
      → new ++ faults_in_with settings s p (drop (i + 1) envs) ≡ old ++ faults_in_with settings s p (drop i envs)
  faults_step envs i env old new lt is e =
      ap (λ l. l ++ faults_in_with settings s p (drop (i + 1) envs)) e
      ∙ put (is_some (form_in_with settings s env p)) (fault_at p env) old (faults_in_with settings s p (drop (i + 1) envs))
      ∙ ap (λ l. old ++ faults_in_with settings s p l) (sym (drop_here envs i env lt is))

  abbrev pub known_false : Environment → Bool
  known_false env = is_known_false (form_in_with settings s env p)

  moved : (a b c : Bool) → ((a && b) && c) ≡ (a && (b && c))
  moved true b c = refl
  moved false b c = refl

  pub impossible_step : (envs : List Environment) (i : ℕ) (env : Environment) (old new : Bool) → i < length envs → env ≡ get_or envs i env → new ≡ (old && known_false env)
      → (new && list_all known_false (drop (i + 1) envs)) ≡ (old && list_all known_false (drop i envs))
  impossible_step envs i env old new lt is e =
      ap (λ b. b && list_all known_false (drop (i + 1) envs)) e
      ∙ moved old (known_false env) (list_all known_false (drop (i + 1) envs))
      ∙ ap (λ l. old && list_all known_false l) (sym (drop_here envs i env lt is))

pub not_known : (a k r : Bool) → r ≡ false → r ≡ k → false ≡ (a && k)
not_known true k r e same = sym e ∙ same
not_known false k r e same = refl

pub still_known : (a k r : Bool) → r ≡ true → r ≡ k → a ≡ (a && k)
still_known true k r e same = sym e ∙ same
still_known false k r e same = refl
