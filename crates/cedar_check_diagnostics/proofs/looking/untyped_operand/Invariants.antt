use Rattle.std.proofs.Common.{ℕ, ◌<◌, ◌++◌}
use Rattle.cedar_ast_expressions.specs.Expression.{Expression}
use Rattle.cedar_check_spec.specs.Capabilities.{Capabilities}
use Rattle.cedar_check_operators.specs.View.{held_view}
use Rattle.cedar_check_diagnostics.specs.Looking.{HasType, IsLookedAt}
use Rattle.cedar_check_diagnostics.proofs.looking.untyped_operand.Given as goal

-- the parts so far have types
abbrev pub invariant-loop-number : goal.invariant-loop-number
invariant-loop-number l =
    (n : ℕ) (g : Capabilities) (p : Expression) → n < l.number → IsLookedAt l.checking.settings l.checking.schema.now l.checking.environment.now (held_view l.held) l.expression n g p → HasType l.checking.settings l.checking.schema.now l.checking.environment.now (held_view l.held ++ g) p
