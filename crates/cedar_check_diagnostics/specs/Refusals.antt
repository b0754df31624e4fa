-- Why a condition is not accepted, and where.
use Rattle.std.specs.Prelude.{◌≡◌, ◌⊎◌, ℕ, List, [], None}
use Rattle.cedar_ast_expressions.specs.Expression.{Expression}
use Rattle.cedar_schema_types.specs.declared.truth.Truth.{Truth}
use Rattle.cedar_schema_types.specs.Types.{TypeTree}
use Rattle.cedar_schema_types.specs.Types as kind
use Rattle.cedar_schema_spec.specs.declared.environment.Environment.{Environment}
use Rattle.cedar_schema_spec.specs.SchemaTree.{SchemaTree}
use Rattle.cedar_check.specs.Typings.{IsTypingOf}
use Rattle.cedar_check_spec.specs.Capabilities.{Capabilities}
use Rattle.cedar_check_spec.specs.Rows.{truth_in}
use Rattle.cedar_check_spec.specs.Typing.{TypesWith}
use Rattle.cedar_check_spec.specs.declared.settings.Settings.{Settings}
use Rattle.cedar_check_diagnostics.specs.Looking.{HasTypedParts}
use Rattle.cedar_check_diagnostics.specs.Paths.{LeadsTo}

-- The condition is a Boolean where nothing is held (Cedar documentation, policy validation).
pub record IsCondition (settings : Settings) (s : SchemaTree) (env : Environment) (e : Expression) : Type 0 where
  pub truth : Truth
  pub gained : Capabilities
  pub typed : TypesWith settings s env [] e (kind.boolean truth) gained

-- The condition has a type, which is not Boolean (Cedar documentation, policy validation).
pub record IsOfOtherType (settings : Settings) (s : SchemaTree) (env : Environment) (e : Expression) : Type 0 where
  pub ty : TypeTree
  pub gained : Capabilities
  pub typed : TypesWith settings s env [] e ty gained
  pub other : truth_in ty ≡ None

-- The path leads to a smallest part of the condition that has no type: where what is held there is held, the part has none, and each
-- of its own parts that the checker looks at has one (Cedar documentation, strict validation).
pub record IsUntypedAt (settings : Settings) (s : SchemaTree) (env : Environment) (e : Expression) (path : List ℕ) : Type 0 where
  pub held : Capabilities
  pub part : Expression
  pub leads : LeadsTo settings s env [] e path held part
  pub untyped : IsTypingOf settings s env held part None
  pub smallest : HasTypedParts settings s env held part

-- The condition is not accepted because of the part at the path: it is a smallest part without a type, or it is the condition and no
-- Boolean (Cedar documentation, policy validation).
abbrev pub IsRefusedAt : Settings → SchemaTree → Environment → Expression → List ℕ → Type 0
IsRefusedAt settings s env e path = IsUntypedAt settings s env e path ⊎ ((path ≡ []) × IsOfOtherType settings s env e)
