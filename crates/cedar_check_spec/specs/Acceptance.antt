-- Which policies are accepted, and which cannot be satisfied (Cedar documentation, policy validation).
use Rattle.std.specs.Prelude.{Contains, []}
use Rattle.cedar_ast.specs.PolicyTree.{PolicyTree}
use Rattle.cedar_ast.specs.Condition.{condition_of}
use Rattle.cedar_schema_types.specs.declared.truth.Truth.{Truth}
use Rattle.cedar_schema_types.specs.declared.truth.Truth.TheVariants.{False}
use Rattle.cedar_schema_spec.specs.declared.environment.Environment.{Environment}
use Rattle.cedar_schema_types.specs.Types as kind
use Rattle.cedar_schema_spec.specs.SchemaTree.{SchemaTree, environments_of}
use Rattle.cedar_check_spec.specs.Capabilities.{Capabilities}
use Rattle.cedar_check_spec.specs.Typing.{TypesWith}
use Rattle.cedar_check_spec.specs.declared.settings.Settings.{Settings}
use Rattle.cedar_ast_expressions.specs.Replacement.{replace}

-- Under these settings, in the environment, the policy's condition is typed as a Boolean of which this is known. The
-- environment's action replaces the variable, and no capabilities are held (cedar-spec, Lean: Cedar.Validation, typechecker).
abbrev pub HasFormWith : Settings → SchemaTree → Environment → PolicyTree → Truth → Type 0
HasFormWith settings s env p f = (g : Capabilities) × TypesWith settings s env [] (replace env.action (condition_of p)) (kind.boolean f) g

-- Under these settings the policy is accepted in the environment: its condition is a Boolean there (Cedar documentation,
-- policy validation).
abbrev pub IsAcceptedInWith : Settings → SchemaTree → Environment → PolicyTree → Type 0
IsAcceptedInWith settings s env p = (f : Truth) × HasFormWith settings s env p f

-- Under these settings the policy is accepted in every environment of the schema (Cedar documentation, policy validation).
abbrev pub IsAcceptedWith : Settings → SchemaTree → PolicyTree → Type 0
IsAcceptedWith settings s p = (env : Environment) → Contains (environments_of s.actions) env → IsAcceptedInWith settings s env p

-- Under these settings the condition is known false in every environment, also where there is none: no request can satisfy
-- the policy (Cedar documentation, policy validation: impossible policies).
abbrev pub IsImpossibleWith : Settings → SchemaTree → PolicyTree → Type 0
IsImpossibleWith settings s p = (env : Environment) → Contains (environments_of s.actions) env → HasFormWith settings s env p False
