-- What a typing of an expression means.
use Rattle.std.specs.Prelude.{Option, Some, None}
use Rattle.cedar_ast_expressions.specs.Expression.{Expression}
use Rattle.cedar_schema_spec.specs.declared.environment.Environment.{Environment}
use Rattle.cedar_schema_spec.specs.SchemaTree.{SchemaTree}
use Rattle.cedar_schema_types.specs.Types.{TypeTree}
use Rattle.cedar_check_spec.specs.Capabilities.{Capabilities}
use Rattle.cedar_check_spec.specs.Rows.{Typed}
use Rattle.cedar_check_spec.specs.Typing.{TypesWith}
use Rattle.cedar_check_spec.specs.declared.settings.Settings.{Settings}

-- The typing of an expression in an environment where these capabilities are held: the type that the rules give it, with what it
-- gains, or none where they give it no type (Cedar documentation, policy validation).
abbrev pub IsTypingOf : Settings → SchemaTree → Environment → Capabilities → Expression → Option Typed → Type 0
IsTypingOf settings s env held e (Some x) = TypesWith settings s env held e x.ty x.gained
IsTypingOf settings s env held e None = (t : TypeTree) (gained : Capabilities) → ¬ TypesWith settings s env held e t gained
