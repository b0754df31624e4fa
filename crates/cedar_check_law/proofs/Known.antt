-- What is known gains nothing.
use Rattle.std.proofs.Common.{⊎_elim}
use Rattle.cedar_ast_expressions.specs.Expression.{Expression}
use Rattle.cedar_schema_types.specs.declared.truth.Truth.TheVariants.{True, False, Any}
use Rattle.cedar_schema_spec.specs.declared.environment.Environment.{Environment}
use Rattle.cedar_schema_types.specs.Types.{TypeTree}
use Rattle.cedar_schema_spec.specs.SchemaTree.{SchemaTree}
use Rattle.cedar_schema_types.specs.Joins.{Join, join_boolean}
use Rattle.cedar_check_spec.specs.Capabilities.{Capability, Capabilities, Has}
use Rattle.cedar_check_spec.specs.Typing.{TypesWith, and_then_true, and_then_any, or_false, or_any_false, or_any_any, if_true, if_false, if_any, has_any}
use Rattle.cedar_check_spec.specs.Determined.{IsKnown, KnownGainsNothingWith}
use Rattle.cedar_check_spec.specs.declared.settings.Settings.{Settings}

known_right : {t u v : TypeTree} → Join t u v → IsKnown v → IsKnown u
known_right (join_boolean {f = True} {g = True}) k = tt
known_right (join_boolean {f = True} {g = False}) k = tt
known_right (join_boolean {f = True} {g = Any}) k = k
known_right (join_boolean {f = False} {g = True}) k = tt
known_right (join_boolean {f = False} {g = False}) k = tt
known_right (join_boolean {f = False} {g = Any}) k = k
known_right (join_boolean {f = Any} {g = True}) k = tt
known_right (join_boolean {f = Any} {g = False}) k = tt
known_right (join_boolean {f = Any} {g = Any}) k = k
known_right _ k = k

module _ (settings : Settings) (s : SchemaTree) (env : Environment) where
  none : {h g : Capabilities} {e : Expression} {t : TypeTree} → TypesWith settings s env h e t g → IsKnown t → (x : Capability) → ¬ Has x g
  none (and_then_true da m u db w) k x n = ⊎_elim (none da k x) (none db tt x) ((w.each x).0 n)
  none (and_then_any da m u db w) k x n = k
  none (or_false da db) k x n = none db k x n
  none (or_any_false da db) k x n = k
  none (or_any_any da db w) k x n = k
  none (if_true di u dx w) k x n = ⊎_elim (none di tt x) (none dx k x) ((w.each x).0 n)
  none (if_false di dy) k x n = none dy k x n
  none (if_any di w dx dy j p q) k x n = none dy (known_right j k) x ((q.each x).0 n).1
  none (has_any d at f p q) k x n = k
  none _ k x n = n

pub known_gains_nothing : (settings : Settings) → KnownGainsNothingWith settings
known_gains_nothing settings s env h g e t d k = none settings s env d k
