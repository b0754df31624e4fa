-- A number that is quick to compare, and the same for equal expressions.
use Rattle.std.specs.Prelude.{ℕ, ◌+◌, ◌%◌}
use Rattle.cedar_ast_expressions.specs.Expression.{Expression, unary}

-- The number and one for each operator on one operand with which the expression begins, modulo 2^64.
abbrev pub height_from : ℕ → Expression → ℕ
height_from n (unary op e) = height_from ((n + 1) % 18446744073709551616) e
height_from n _ = n

-- With how many operators on one operand the expression begins, modulo 2^64.
abbrev pub height_of : Expression → ℕ
height_of e = height_from 0 e
