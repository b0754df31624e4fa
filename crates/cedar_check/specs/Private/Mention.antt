-- Where the variable `action` occurs in expressions.
use Rattle.std.specs.Prelude.{Bool, true, false, ◌||◌}
use Rattle.cedar_ast_expressions.specs.declared.variable.Variable.{Variable}
use Rattle.cedar_ast_expressions.specs.declared.variable.Variable.TheVariants.{Action}
use Rattle.cedar_ast_expressions.specs.Expression.{Expression, literal, variable, and, or, if_else, unary, binary, set_with, record_with, Expressions, no_more, and_then, Entries, no_entries, entry}

-- Whether the variable is the action.
abbrev pub is_action : Variable → Bool
is_action Action = true
is_action _ = false

-- Whether the action occurs in an expression.
abbrev mutual
  pub mentions : Expression → Bool
  mentions (literal v) = false
  mentions (variable x) = is_action x
  mentions (and a b) = mentions a || mentions b
  mentions (or a b) = mentions a || mentions b
  mentions (if_else c a b) = mentions c || (mentions a || mentions b)
  mentions (unary op a) = mentions a
  mentions (binary op a b) = mentions a || mentions b
  mentions (set_with es) = any_mentions es
  mentions (record_with fs) = entries_mention fs

  -- Whether it occurs in one of these.
  pub any_mentions : Expressions → Bool
  any_mentions no_more = false
  any_mentions (and_then e es) = mentions e || any_mentions es

  -- Whether it occurs in the value of one of these entries.
  pub entries_mention : Entries → Bool
  entries_mention no_entries = false
  entries_mention (entry k e fs) = mentions e || entries_mention fs
