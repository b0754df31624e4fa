-- What is inside a kind nests less deep than its expression.
use Rattle.std.specs.Prelude.{◌≤◌, max}
use Rattle.std.proofs.Common.{arith}
use Rattle.cedar_ast_expressions.specs.Private.Depth.{depth, most_members}
use Rattle.cedar_ast_expressions.specs.declared.expression.ExprKind.{ExprKind}
use Rattle.cedar_ast_expressions.specs.declared.expression.ExprKind.TheVariants.{Set}
use Rattle.cedar_ast_expressions.specs.declared.entries.Entries.TheDeep.{deep-ExprKind}
use Rattle.cedar_ast_expressions.specs.ExprKind.{expression_of}

pub deep_le-depth : (k : ExprKind) → max (deep-ExprKind k) 0 ≤ depth (expression_of k)
deep_le-depth (Set es) = omega (arith, most_members es.items)
deep_le-depth _ = omega arith
