-- Signatures of environments, and what is known of a condition for each of them.
use Rattle.std.specs.Prelude.{◌≡◌, true, ℕ, List, Option, Some, IfSome, IsSomeAnd, option_and_then, slice_get, []}
use Rattle.std.specs.Borrow.{Bor}
use Rattle.std.specs.List.{AllZip}
use Rattle.cedar_ast_expressions.specs.Expression.{Expression}
use Rattle.cedar_ast_expressions.specs.Replacement.{replace}
use Rattle.cedar_schema_types.specs.declared.truth.Truth.{Truth}
use Rattle.cedar_schema_spec.specs.SchemaTree.{SchemaTree}
use Rattle.cedar_schema_spec.specs.Declarations.{is_action}
use Rattle.cedar_schema_spec.specs.declared.environment.Environment.{Environment}
use Rattle.cedar_check_spec.specs.Rows.{truth_in}
use Rattle.cedar_check_spec.specs.Private.Checking.{type_of_with}
use Rattle.cedar_check_spec.specs.declared.settings.Settings.{Settings}
use Rattle.cedar_check.specs.declared.form.Form.{Form}
use Rattle.cedar_check.specs.declared.prepared.Prepared.{Prepared}
use Rattle.cedar_check.specs.Private.Condition.{condition_in, first_in, IsReady}
use Rattle.cedar_check.specs.Private.View.{form_view}

-- Two environments have the same types of the principal, of the resource and of the context.
pub record AreAlike (one two : Environment) : Type 0 where
  pub principal : one.principal ≡ two.principal
  pub resource : one.resource ≡ two.resource
  pub context : one.context ≡ two.context

-- The example of this number has the types of the environment.
abbrev pub IsNumberOf : List (Bor Environment) → Environment → ℕ → Type 0
IsNumberOf examples env n = IsSomeAnd (slice_get examples n) (λ example. AreAlike example.now env)

-- Each environment that has a number has the types of the example of this number.
abbrev pub AreNumbered : List (Bor Environment) → List (Option ℕ) → List Environment → Type 0
AreNumbered examples numbers envs = AllZip (λ number env. IfSome number (IsNumberOf examples env)) numbers envs

-- What is known of a condition in an environment, with the environment's action in place of the variable.
abbrev pub form_with : Settings → SchemaTree → Environment → Expression → Option Truth
form_with settings s env e = option_and_then (λ x. truth_in x.ty) (type_of_with settings s env [] (replace env.action e))

-- The forms are those of the condition in each environment that has the types of the example at the form's place.
abbrev pub AreKnown : Settings → SchemaTree → Expression → List (Bor Environment) → List Form → Type 0
AreKnown settings s e examples forms =
    (n : ℕ) (example : Bor Environment) (form : Form) (env : Environment)
    → slice_get examples n ≡ Some example → slice_get forms n ≡ Some form → AreAlike example.now env → form_view form ≡ form_with settings s env e

-- In an environment of a declared action, the one form of its first part makes the other the condition's form.
abbrev pub Follows : Prepared → Environment → Form → Form → Type 0
Follows condition env first form =
    (settings : Settings) (s : SchemaTree) → IsReady s condition → is_action s env.action ≡ true → form_view first ≡ form_with settings s env (first_in condition)
    → form_view form ≡ form_with settings s env (condition_in condition)
