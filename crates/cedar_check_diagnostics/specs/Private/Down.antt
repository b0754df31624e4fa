-- What lies below a part of a condition.
use Rattle.std.specs.Prelude.{ℕ, List, [], ◌≤◌}
use Rattle.cedar_ast_expressions.specs.Expression.{Expression}
use Rattle.cedar_ast_expressions.specs.Private.Depth.{depth}
use Rattle.cedar_schema_spec.specs.declared.environment.Environment.{Environment}
use Rattle.cedar_schema_spec.specs.SchemaTree.{SchemaTree}
use Rattle.cedar_check_spec.specs.Capabilities.{Capabilities}
use Rattle.cedar_check_spec.specs.declared.settings.Settings.{Settings}
use Rattle.cedar_check_diagnostics.specs.Paths.{LeadsTo}

-- The second part is the first one, or a part below it: where a path leads to the first one, the second path leads to the second one.
pub record IsBelow (settings : Settings) (s : SchemaTree) (env : Environment) (path : List ℕ) (held : Capabilities) (part : Expression) (path' : List ℕ) (held' : Capabilities) (part' : Expression) : Type 0 where
  pub leads : (e : Expression) → LeadsTo settings s env [] e path held part → LeadsTo settings s env [] e path' held' part'
  pub smaller : depth part' ≤ depth part
