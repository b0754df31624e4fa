-- The environments of one action.
use Rattle.std.specs.Prelude.{ℕ, List, map, flat_map}
use Rattle.cedar_value.specs.declared.uid.Uid.{Uid}
use Rattle.cedar_schema_types.specs.Types.{TypeTree}
use Rattle.cedar_schema_spec.specs.declared.environment.Environment.{Environment}
use Rattle.cedar_schema_spec.specs.SchemaTree.{ActionTree}

-- with a type of principals
abbrev pub with_resources : Uid → List ℕ → TypeTree → List (List ℕ) → List Environment
with_resources u p context = map (λ r. record { action = u; principal = p; resource = r; context = context })

-- with these types of principals
abbrev pub with_principals : Uid → ActionTree → List (List ℕ) → List Environment
with_principals u a = flat_map (λ p. with_resources u p a.context a.resources)
