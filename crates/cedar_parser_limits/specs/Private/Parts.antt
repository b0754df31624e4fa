-- What the parts of lists keep, and what they make.
use Rattle.std.specs.Prelude.{ℕ, List, map}
use Rattle.cedar_ast_expressions.specs.declared.operator.UnaryOperator.TheVariants.{Get}
use Rattle.cedar_ast_expressions.specs.Expression as e
use Rattle.cedar_ast_expressions.specs.Expression.{Expression}
use Rattle.cedar_ext.specs.declared.language.Language.{Language}
use Rattle.cedar_parser_limits.specs.declared.side_condition.SideCondition.{SideCondition}
use Rattle.cedar_parser_tree.specs.declared.written.Field.{Field}
use Rattle.cedar_parser_tree.specs.declared.written.Link.{Link}
use Rattle.cedar_parser_tree.specs.declared.written.Link.TheVariants.{Operand, Attribute, Method}
use Rattle.cedar_parser_tree.specs.Written.{members_of}
use Rattle.cedar_parser_tokens.specs.Content.{text_of}
use Rattle.cedar_parser_limits.specs.Meaning.{linked, applied, method_of, to_expression, to_expressions}
use Rattle.cedar_parser_limits.specs.Limits.{Stands, IsKnown, HasArity, method_arity, method_in, Keeps, KeepMembers}

abbrev pub KeepLink : Language → SideCondition → Link → Type 0
KeepLink l c (Operand sign a) = Keeps l c a
KeepLink l c (Attribute s) = Stands c s
KeepLink l c (Method name ms) = IsKnown c (method_in l name) × HasArity c (method_arity name) (members_of ms) × KeepMembers l c (members_of ms)

abbrev pub KeepField : Language → SideCondition → Field → Type 0
KeepField l c f = Stands c f.key × Keeps l c f.value

-- an expression, and a link after it
abbrev pub behind : Expression → Link → Expression
behind left (Operand sign a) = linked sign left (to_expression a)
behind left (Attribute c) = e.unary (Get (text_of c)) left
behind left (Method name ms) = applied (method_of name) left (to_expressions (members_of ms))

abbrev pub pairs_of : List Field → List (List ℕ × Expression)
pairs_of fs = map (λ f. (text_of f.key, to_expression f.value)) fs
