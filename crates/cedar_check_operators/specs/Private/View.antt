-- Definitions for contracts between the rules: looks at types, and the row of `is`.
use Rattle.std.specs.Prelude.{ℕ, ◌||◌, bytes_eq, List, Option, option_and_then}
use Rattle.cedar_schema_types.specs.Joining.{only_if}
use Rattle.cedar_schema_types.specs.Membership.{known}
use Rattle.cedar_schema_spec.specs.SchemaTree.{SchemaTree}
use Rattle.cedar_schema_spec.specs.Declarations.{is_entity_type, is_action_type}
use Rattle.cedar_schema_types.specs.Types.{TypeTree}
use Rattle.cedar_schema_types.specs.Types as kind
use Rattle.cedar_check_spec.specs.Rows.{Typed, as_type, entity_in}
use Rattle.cedar_check_operators.specs.declared.lent_type.TypeGlance.{TypeGlance}
use Rattle.cedar_check_operators.specs.declared.lent_type.TypeGlance.TheVariants as glance

-- The type that is looked at.
abbrev pub type_seen : TypeGlance → TypeTree
type_seen (glance.Boolean f) = kind.boolean f
type_seen glance.Long = kind.long
type_seen glance.String = kind.string
type_seen (glance.Extension x) = kind.extension x
type_seen (glance.Entity n) = kind.entity n.now
type_seen (glance.Set t) = kind.set t.now
type_seen (glance.Record r) = kind.record_of r.now

-- The row of `is`.
abbrev pub is_row : SchemaTree → List ℕ → TypeTree → Option Typed
is_row s n t = option_and_then (λ m. only_if (is_entity_type s n || is_action_type s n) (as_type (kind.boolean (known (bytes_eq m n))))) (entity_in t)
