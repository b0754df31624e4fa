use Rattle.std.proofs.Common.{◌≡◌, Some}
use Rattle.cedar_ast_expressions.specs.Expression.{expressions_of}
use Rattle.cedar_check_spec.specs.Private.Checking.{types_all}
use Rattle.cedar_check_operators.specs.View.{held_view, tree_of}
use Rattle.cedar_check_diagnostics.specs.Looking.{first_members}
use Rattle.cedar_check_diagnostics.proofs.looking.untyped_other.Given as goal

-- the members so far join to this type
abbrev pub invariant-loop-number : goal.invariant-loop-number
invariant-loop-number l =
    types_all l.checking.settings l.checking.schema.now l.checking.environment.now (held_view l.held) (first_members l.number (expressions_of l.members)) ≡ Some (tree_of l.joined)
