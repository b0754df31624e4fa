-- Where an environment is in the list of all environments.
use Rattle.std.specs.Prelude.{◌≡◌, ℕ, List, Some}
use Rattle.std.specs.List.{slice_get}
use Rattle.cedar_value.specs.declared.uid.Uid.{Uid}
use Rattle.cedar_schema_spec.specs.declared.environment.Environment.{Environment}

-- An environment has this action, and these types of its principals and of its resources (Cedar documentation, JSON schema format:
-- appliesTo).
pub record IsEnvironmentOf (u : Uid) (p r : List ℕ) (env : Environment) : Type 0 where
  pub action : env.action ≡ u
  pub principal : env.principal ≡ p
  pub resource : env.resource ≡ r

-- The environment at the position, from 0, has this action and these types (own).
abbrev pub IsEnvironmentAt : List Environment → Uid → List ℕ → List ℕ → ℕ → Type 0
IsEnvironmentAt environments u p r position = (env : Environment) × (slice_get environments position ≡ Some env) × IsEnvironmentOf u p r env
