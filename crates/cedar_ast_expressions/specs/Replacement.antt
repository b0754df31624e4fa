-- The variable `action` replaced by a uid (cedar-spec, Lean: Cedar.Validation, substitution of the action).
use Rattle.cedar_value.specs.Datum.{uid}
use Rattle.cedar_value.specs.declared.uid.Uid.{Uid}
use Rattle.cedar_ast_expressions.specs.declared.variable.Variable.{Variable}
use Rattle.cedar_ast_expressions.specs.declared.variable.Variable.TheVariants.{Action}
use Rattle.cedar_ast_expressions.specs.Expression.{Expression, literal, variable, and, or, if_else, unary, binary, set_with, record_with, Expressions, no_more, and_then, Entries, no_entries, entry}

-- A variable, the action replaced by a uid (cedar-spec, Lean: substituteAction).
abbrev pub replace_variable : Uid → Variable → Expression
replace_variable u Action = literal (uid u)
replace_variable u x = variable x

-- An expression, with the action replaced by a uid wherever it occurs (cedar-spec, Lean: substituteAction).
abbrev mutual
  pub replace : Uid → Expression → Expression
  replace u (literal v) = literal v
  replace u (variable x) = replace_variable u x
  replace u (and a b) = and (replace u a) (replace u b)
  replace u (or a b) = or (replace u a) (replace u b)
  replace u (if_else c a b) = if_else (replace u c) (replace u a) (replace u b)
  replace u (unary op a) = unary op (replace u a)
  replace u (binary op a b) = binary op (replace u a) (replace u b)
  replace u (set_with es) = set_with (replace_all u es)
  replace u (record_with fs) = record_with (replace_entries u fs)

  -- Expressions, the action replaced in each (cedar-spec, Lean: substituteAction).
  pub replace_all : Uid → Expressions → Expressions
  replace_all u no_more = no_more
  replace_all u (and_then e es) = and_then (replace u e) (replace_all u es)

  -- Entries, the action replaced in each value (cedar-spec, Lean: substituteAction).
  pub replace_entries : Uid → Entries → Entries
  replace_entries u no_entries = no_entries
  replace_entries u (entry k e fs) = entry k (replace u e) (replace_entries u fs)
