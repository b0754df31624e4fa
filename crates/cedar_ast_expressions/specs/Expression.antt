-- An expression, as a tree (cedar-spec, Lean: Cedar.Spec.Expr).
use Rattle.std.specs.Prelude.{ℕ, List, [], ◌∷◌}
use Rattle.cedar_value.specs.Datum.{Datum}
use Rattle.cedar_ast_expressions.specs.declared.variable.Variable.{Variable}
use Rattle.cedar_ast_expressions.specs.declared.operator.UnaryOperator.{UnaryOperator}
use Rattle.cedar_ast_expressions.specs.declared.operator.BinaryOperator.{BinaryOperator}

mutual
  -- An expression: a value, a part of the request, or an operator or constructor with its parts (Cedar language
  -- reference, expressions; cedar-spec, Lean: Cedar.Spec.Expr).
  pub data Expression : Type 0 where
    literal : Datum → Expression
    variable : Variable → Expression
    and : Expression → Expression → Expression
    or : Expression → Expression → Expression
    if_else : (condition if_true if_false : Expression) → Expression
    unary : UnaryOperator → Expression → Expression
    binary : BinaryOperator → Expression → Expression → Expression
    set_with : Expressions → Expression
    record_with : Entries → Expression

  -- The members of a set, as they are written (Cedar language reference, sets).
  pub data Expressions : Type 0 where
    no_more : Expressions
    and_then : Expression → Expressions → Expressions

  -- The entries of a record, as they are written (Cedar language reference, records).
  pub data Entries : Type 0 where
    no_entries : Entries
    entry : (key : List ℕ) (value : Expression) → Entries → Entries

-- The expressions of a list, as members (Cedar language reference, sets).
abbrev pub expressions_of : List Expression → Expressions
expressions_of [] = no_more
expressions_of (e ∷ es) = and_then e (expressions_of es)

-- The pairs of a list, as entries (Cedar language reference, records).
abbrev pub entries_of : List (List ℕ × Expression) → Entries
entries_of [] = no_entries
entries_of (p ∷ ps) = entry p.0 p.1 (entries_of ps)
