-- Which operators look an attribute up.
use Rattle.cedar_ast_expressions.specs.declared.operator.UnaryOperator.{UnaryOperator}
use Rattle.cedar_ast_expressions.specs.declared.operator.UnaryOperator.TheVariants.{Get}

-- The operator is not the look-up of an attribute (Cedar language reference, operators, `.`).
abbrev pub IsNoAccess : UnaryOperator → Type 0
IsNoAccess (Get a) = ⊥
IsNoAccess _ = Unit {0}
