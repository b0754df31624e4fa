use Rattle.std.specs.Bool.{one_answer}
use Rattle.cedar_ast_expressions.specs.Private.SameExpression.{same_unary-Decides}
use Rattle.cedar_ast_expressions.proofs.operator.UnaryOperatorPartialEq.eq.Goals as goal

pub returns-clause-gives : goal.returns-clause-gives
returns-clause-gives c = one_answer _ _ c.same_operator.ensures (same_unary-Decides c.args.self.now c.args.other.now)
