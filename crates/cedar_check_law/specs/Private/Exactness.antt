-- The function of typing gives exactly the typings that there are.
use Rattle.std.specs.Prelude.{◌≡◌, ◌↔◌, Some}
use Rattle.cedar_ast_expressions.specs.Expression.{Expression}
use Rattle.cedar_ast.specs.PolicyTree.{PolicyTree}
use Rattle.cedar_schema_types.specs.declared.truth.Truth.{Truth}
use Rattle.cedar_schema_spec.specs.declared.environment.Environment.{Environment}
use Rattle.cedar_schema_types.specs.Types.{TypeTree}
use Rattle.cedar_schema_spec.specs.SchemaTree.{SchemaTree}
use Rattle.cedar_check_spec.specs.Capabilities.{Capabilities, AreSame}
use Rattle.cedar_check_spec.specs.Typing.{TypesWith}
use Rattle.cedar_check_spec.specs.Rows.{Typed}
use Rattle.cedar_check_spec.specs.Private.Checking.{type_of_with, form_in_with}
use Rattle.cedar_check_spec.specs.Acceptance.{HasFormWith}
use Rattle.cedar_check_spec.specs.declared.settings.Settings.{Settings}

-- The function answers the type, and the gained capabilities up to their order.
pub record AnswersWith (settings : Settings) (s : SchemaTree) (env : Environment) (held : Capabilities) (e : Expression) (t : TypeTree) (gained : Capabilities) : Type 0 where
  pub answer : Typed
  pub given : type_of_with settings s env held e ≡ Some answer
  pub ty : answer.ty ≡ t
  pub same : AreSame gained answer.gained

-- What the function answers is a typing, under these settings.
abbrev pub FoundIsTypedWith : Settings → Type 0
FoundIsTypedWith settings = (s : SchemaTree) (env : Environment) (held : Capabilities) (e : Expression) (x : Typed) → type_of_with settings s env held e ≡ Some x → TypesWith settings s env held e x.ty x.gained

-- Each typing is what the function answers, under these settings.
abbrev pub TypedIsFoundWith : Settings → Type 0
TypedIsFoundWith settings = (s : SchemaTree) (env : Environment) (held gained : Capabilities) (e : Expression) (t : TypeTree) → TypesWith settings s env held e t gained → AnswersWith settings s env held e t gained

-- The form of a policy's condition in an environment is the one that is computed, under these settings.
abbrev pub FormIsFoundWith : Settings → Type 0
FormIsFoundWith settings = (s : SchemaTree) (env : Environment) (p : PolicyTree) (f : Truth) → HasFormWith settings s env p f ↔ (form_in_with settings s env p ≡ Some f)
