-- What a kind of the code denotes.
use Rattle.cedar_ast_expressions.specs.Expression.{Expression, literal, variable, and, or, if_else, unary, binary, set_with, record_with, expressions_of, entries_of}
use Rattle.cedar_ast_expressions.specs.declared.expression.ExprKind.{ExprKind}
use Rattle.cedar_ast_expressions.specs.declared.expression.ExprKind.TheVariants.{Literal, Variable, And, Or, If, Unary, Binary, Set, Record}

-- The expression that a kind denotes (this project).
abbrev pub expression_of : ExprKind → Expression
expression_of (Literal v) = literal v
expression_of (Variable x) = variable x
expression_of (And a b) = and a.value b.value
expression_of (Or a b) = or a.value b.value
expression_of (If c a b) = if_else c.value a.value b.value
expression_of (Unary op a) = unary op a.value
expression_of (Binary op a b) = binary op a.value b.value
expression_of (Set es) = set_with (expressions_of es.items)
expression_of (Record ps) = record_with (entries_of ps)
