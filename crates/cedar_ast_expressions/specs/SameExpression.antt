-- When two expressions are the same (Cedar language reference, expressions).
use Rattle.std.specs.Prelude.{Bool, true, false, ◌&&◌}
use Rattle.std.specs.Str.{bytes_eq}
use Rattle.cedar_ext.specs.Extensions.{same_type}
use Rattle.cedar_ext.specs.Methods.{method_name}
use Rattle.cedar_ext.specs.UnaryMethods.{unary_name}
use Rattle.cedar_ext.specs.declared.method.BinaryMethod.{BinaryMethod}
use Rattle.cedar_ext.specs.declared.unary_method.UnaryMethod.{UnaryMethod}
use Rattle.cedar_ext.specs.SamePattern.{same_pattern}
use Rattle.cedar_value.specs.Datum.{same}
use Rattle.cedar_ast_expressions.specs.declared.variable.Variable.{Variable}
use Rattle.cedar_ast_expressions.specs.declared.variable.Variable.TheVariants.{Principal, Action, Resource, Context}
use Rattle.cedar_ast_expressions.specs.declared.operator.UnaryOperator.{UnaryOperator}
use Rattle.cedar_ast_expressions.specs.declared.operator.UnaryOperator.TheVariants.{Not, Negate, Has, Get, Like, Is, Construct, IsEmpty, Call}
use Rattle.cedar_ast_expressions.specs.declared.operator.BinaryOperator.{BinaryOperator}
use Rattle.cedar_ast_expressions.specs.declared.operator.BinaryOperator.TheVariants as operator
use Rattle.cedar_ast_expressions.specs.Expression.{Expression, literal, variable, and, or, if_else, unary, binary, set_with, record_with, Expressions, no_more, and_then, Entries, no_entries, entry}

-- Whether two variables are the same (Cedar language reference, variables).
abbrev pub same_variable : Variable → Variable → Bool
same_variable Principal Principal = true
same_variable Action Action = true
same_variable Resource Resource = true
same_variable Context Context = true
same_variable _ _ = false

-- Whether two methods that take one argument are the same: they have one name (Cedar language reference, functions).
abbrev pub same_method : BinaryMethod → BinaryMethod → Bool
same_method m n = bytes_eq (method_name m) (method_name n)

-- Whether two methods that take no argument are the same: they have one name (Cedar language reference, functions).
abbrev pub same_unary_method : UnaryMethod → UnaryMethod → Bool
same_unary_method m n = bytes_eq (unary_name m) (unary_name n)

-- Whether two operators on one operand are the same, with one key, pattern or name (Cedar language reference, operators).
unfoldable pub same_unary : UnaryOperator → UnaryOperator → Bool
same_unary Not Not = true
same_unary Negate Negate = true
same_unary (Has a) (Has b) = bytes_eq a b
same_unary (Get a) (Get b) = bytes_eq a b
same_unary (Like p) (Like q) = same_pattern p q
same_unary (Is t) (Is u) = bytes_eq t u
same_unary (Construct c) (Construct d) = same_type c d
same_unary IsEmpty IsEmpty = true
same_unary (Call m) (Call n) = same_unary_method m n
same_unary _ _ = false

-- Whether two operators on two operands are the same (Cedar language reference, operators).
abbrev pub same_binary : BinaryOperator → BinaryOperator → Bool
same_binary operator.Equal operator.Equal = true
same_binary operator.Less operator.Less = true
same_binary operator.LessEqual operator.LessEqual = true
same_binary operator.Add operator.Add = true
same_binary operator.Subtract operator.Subtract = true
same_binary operator.Multiply operator.Multiply = true
same_binary operator.In operator.In = true
same_binary operator.Contains operator.Contains = true
same_binary operator.ContainsAll operator.ContainsAll = true
same_binary operator.ContainsAny operator.ContainsAny = true
same_binary (operator.Call m) (operator.Call n) = same_method m n
same_binary _ _ = false

-- Whether two expressions are the same tree: of one form, and the same part by part (Cedar language reference,
-- expressions).
unfoldable mutual
  pub same_expression : Expression → Expression → Bool
  same_expression (literal d) (literal e) = same d e
  same_expression (variable x) (variable y) = same_variable x y
  same_expression (and a b) (and c d) = same_expression a c && same_expression b d
  same_expression (or a b) (or c d) = same_expression a c && same_expression b d
  same_expression (if_else a b c) (if_else d e f) = same_expression a d && (same_expression b e && same_expression c f)
  same_expression (unary op a) (unary other b) = same_unary op other && same_expression a b
  same_expression (binary op a b) (binary other c d) = same_binary op other && (same_expression a c && same_expression b d)
  same_expression (set_with es) (set_with fs) = same_expressions es fs
  same_expression (record_with es) (record_with fs) = same_entries es fs
  same_expression _ _ = false

  -- Whether the members of two sets are the same, member by member (Cedar language reference, sets).
  pub same_expressions : Expressions → Expressions → Bool
  same_expressions no_more no_more = true
  same_expressions (and_then e es) (and_then f fs) = same_expression e f && same_expressions es fs
  same_expressions _ _ = false

  -- Whether the entries of two records are the same, key by key and value by value (Cedar language reference, records).
  pub same_entries : Entries → Entries → Bool
  same_entries no_entries no_entries = true
  same_entries (entry k e es) (entry l f fs) = bytes_eq k l && (same_expression e f && same_entries es fs)
  same_entries _ _ = false
