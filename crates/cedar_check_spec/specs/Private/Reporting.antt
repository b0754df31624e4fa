-- Reports as functions, which the checker computes.
use Rattle.std.specs.Prelude.{ℕ, Bool, true, false, cond, List, [], ◌∷◌, ◌++◌, map, filter, Option, Some, is_some}
use Rattle.std.specs.List.{list_all}
use Rattle.cedar_ast.specs.PolicyTree.{PolicyTree}
use Rattle.cedar_schema_types.specs.declared.truth.Truth.{Truth}
use Rattle.cedar_schema_types.specs.declared.truth.Truth.TheVariants.{False}
use Rattle.cedar_schema_spec.specs.declared.environment.Environment.{Environment}
use Rattle.cedar_schema_spec.specs.SchemaTree.{SchemaTree, environments_of}
use Rattle.cedar_check_spec.specs.Private.Checking.{form_in_with}
use Rattle.cedar_check_spec.specs.Reports.{FaultTree, fault_at}
use Rattle.cedar_check_spec.specs.declared.settings.Settings.{Settings}

-- A fault for each of these environments in which the type of the policy's condition is not Boolean under these settings.
abbrev pub faults_in_with : Settings → SchemaTree → PolicyTree → List Environment → List FaultTree
faults_in_with settings s p [] = []
faults_in_with settings s p (env ∷ envs) = cond (is_some (form_in_with settings s env p)) (faults_in_with settings s p envs) (fault_at p env ∷ faults_in_with settings s p envs)

-- The faults in all environments of the schema, in their order.
abbrev pub faults_of_with : Settings → SchemaTree → PolicyTree → List FaultTree
faults_of_with settings s p = faults_in_with settings s p (environments_of s.actions)

-- The faults of all policies: in the order of the policies, and for one policy in the order of the environments.
abbrev pub all_faults_with : Settings → SchemaTree → List PolicyTree → List FaultTree
all_faults_with settings s [] = []
all_faults_with settings s (p ∷ ps) = faults_of_with settings s p ++ all_faults_with settings s ps

-- Whether the form is that of known false.
abbrev pub is_known_false : Option Truth → Bool
is_known_false (Some False) = true
is_known_false _ = false

-- Whether the condition is known false in every environment under these settings.
abbrev pub is_impossible_with : Settings → SchemaTree → PolicyTree → Bool
is_impossible_with settings s p = list_all (λ env. is_known_false (form_in_with settings s env p)) (environments_of s.actions)

-- The ids of the policies that are impossible under these settings, in the order of the policies.
abbrev pub warnings_with : Settings → SchemaTree → List PolicyTree → List (List ℕ)
warnings_with settings s ps = map (λ p. p.id) (filter (is_impossible_with settings s) ps)
