-- Which policies a statement was before `has` could have a path of attributes and before the method `isEmpty` existed: form by
-- form, without reference to what the forms mean today. Scopes, annotations and ids are those of today (Cedar language
-- reference, grammar; operators; functions).
use Rattle.std.specs.Prelude.{ℕ, ◌+◌, false, pos, neg_ℤ, List, [], ◌∷◌, Option, Some, None, map, codes, if◌then◌else◌}
use Rattle.std.specs.Str.{bytes_eq}
use Rattle.cedar_value.specs.Datum as datum
use Rattle.cedar_ext.specs.declared.extension.ExtensionType.TheVariants as constructor
use Rattle.cedar_ext.specs.declared.method.BinaryMethod.TheVariants as method_called
use Rattle.cedar_ast_expressions.specs.declared.operator.UnaryOperator.TheVariants.{Not, Negate, Has, Get, Like, Is, Construct}
use Rattle.cedar_ast_expressions.specs.declared.operator.BinaryOperator.{BinaryOperator}
use Rattle.cedar_ast_expressions.specs.declared.operator.BinaryOperator.TheVariants as operator
use Rattle.cedar_ast_expressions.specs.Expression as e
use Rattle.cedar_ast_expressions.specs.Expression.{Expression, Expressions, Entries}
use Rattle.cedar_ast.specs.declared.condition.Condition.{Condition}
use Rattle.cedar_ast.specs.declared.statement.Statement.{Statement}
use Rattle.cedar_ast.specs.declared.statement.Statement.TheVariants as statement
use Rattle.cedar_ast.specs.PolicyTree.{PolicyTree, TemplateTree}
use Rattle.cedar_ast.specs.PolicySetTree.{PolicySetTree, entered}
use Rattle.cedar_parser_tokens.specs.Content.{text_of}
use Rattle.cedar_parser_tokens.specs.Names.{to_uid}
use Rattle.cedar_parser_tree.specs.declared.sign.ChainSign.{ChainSign}
use Rattle.cedar_parser_tree.specs.declared.sign.ChainSign.TheVariants as chain_sign
use Rattle.cedar_parser_tree.specs.declared.sign.RelationSign.{RelationSign}
use Rattle.cedar_parser_tree.specs.declared.sign.RelationSign.TheVariants as relation_sign
use Rattle.cedar_parser_tree.specs.declared.written_statement.WrittenCondition.{WrittenCondition}
use Rattle.cedar_parser_tree.specs.Written.{Written, truth, number, negative, text, entity, variable, slot, group, not, negated, relation, has, like, is, is_in, chain, choice, set, record_of, call, Links, no_links, operand, attribute, method, Members, no_members, member, Fields, no_fields, field}
use Rattle.cedar_parser_tree.specs.StatementTree.{StatementTree}
use Rattle.cedar_parser_limits.specs.StatementMeaning.{to_policy, to_template, has_slot, id_at}

-- The operator of each earlier method (Cedar language reference, operators; functions).
abbrev pub earlier_method_of : List ℕ → Option BinaryOperator
earlier_method_of name =
    if bytes_eq name (codes "contains") then Some operator.Contains
    else (if bytes_eq name (codes "containsAll") then Some operator.ContainsAll
    else (if bytes_eq name (codes "containsAny") then Some operator.ContainsAny
    else (if bytes_eq name (codes "lessThan") then Some (operator.Call method_called.LessThan)
    else (if bytes_eq name (codes "lessThanOrEqual") then Some (operator.Call method_called.LessThanOrEqual)
    else (if bytes_eq name (codes "greaterThan") then Some (operator.Call method_called.GreaterThan)
    else (if bytes_eq name (codes "greaterThanOrEqual") then Some (operator.Call method_called.GreaterThanOrEqual) else None))))))

-- What two operands with a sign between them were (Cedar language reference, operators).
abbrev pub earlier_linked : ChainSign → Expression → Expression → Expression
earlier_linked chain_sign.Or a b = e.or a b
earlier_linked chain_sign.And a b = e.and a b
earlier_linked chain_sign.Plus a b = e.binary operator.Add a b
earlier_linked chain_sign.Minus a b = e.binary operator.Subtract a b
earlier_linked chain_sign.Times a b = e.binary operator.Multiply a b

-- What a relation was: `!=`, `>` and `>=` denied `==`, `<=` and `<` (Cedar language reference, operators).
abbrev pub earlier_related : RelationSign → Expression → Expression → Expression
earlier_related relation_sign.Less a b = e.binary operator.Less a b
earlier_related relation_sign.LessEqual a b = e.binary operator.LessEqual a b
earlier_related relation_sign.Greater a b = e.unary Not (e.binary operator.LessEqual a b)
earlier_related relation_sign.GreaterEqual a b = e.unary Not (e.binary operator.Less a b)
earlier_related relation_sign.Equal a b = e.binary operator.Equal a b
earlier_related relation_sign.NotEqual a b = e.unary Not (e.binary operator.Equal a b)
earlier_related relation_sign.In a b = e.binary operator.In a b

-- What a call was: `decimal` of its one argument, the only function. A call with other arguments was refused (Cedar language
-- reference, functions).
abbrev pub earlier_call : Expressions → Expression
earlier_call (e.and_then a e.no_more) = e.unary (Construct constructor.Decimal) a
earlier_call _ = e.literal (datum.boolean false)

-- What a method was: its operator on the operand before it and on its one argument; another method, or one with other
-- arguments, was refused (Cedar language reference, functions).
abbrev pub earlier_applied : Option BinaryOperator → Expression → Expressions → Expression
earlier_applied (Some op) left (e.and_then a e.no_more) = e.binary op left a
earlier_applied _ left _ = left

abbrev mutual
  -- The expression that was written: `has` tested for one attribute, and chains grouped to the left (Cedar language reference,
  -- grammar; operators).
  pub earlier_expression : Written → Expression
  earlier_expression (truth b) = e.literal (datum.boolean b)
  earlier_expression (number n) = e.literal (datum.long (pos n))
  earlier_expression (negative n) = e.literal (datum.long (neg_ℤ (pos n)))
  earlier_expression (text c) = e.literal (datum.text (text_of c))
  earlier_expression (entity u) = e.literal (datum.uid (to_uid u))
  earlier_expression (variable x) = e.variable x
  earlier_expression (slot x) = e.variable x
  earlier_expression (group a) = earlier_expression a
  earlier_expression (not a) = e.unary Not (earlier_expression a)
  earlier_expression (negated a) = e.unary Negate (earlier_expression a)
  earlier_expression (relation sign a b) = earlier_related sign (earlier_expression a) (earlier_expression b)
  earlier_expression (has a c more) = e.unary (Has (text_of c)) (earlier_expression a)
  earlier_expression (like a p) = e.unary (Like p) (earlier_expression a)
  earlier_expression (is a ty) = e.unary (Is ty) (earlier_expression a)
  earlier_expression (is_in a ty b) = e.and (e.unary (Is ty) (earlier_expression a)) (e.binary operator.In (earlier_expression a) (earlier_expression b))
  earlier_expression (chain a ls) = earlier_grouped (earlier_expression a) ls
  earlier_expression (choice c a b) = e.if_else (earlier_expression c) (earlier_expression a) (earlier_expression b)
  earlier_expression (set ms) = e.set_with (earlier_expressions ms)
  earlier_expression (record_of fs) = e.record_with (earlier_entries fs)
  earlier_expression (call name ms) = earlier_call (earlier_expressions ms)

  -- The operand to the left, with each link after it, from left to right (Cedar language reference, operators).
  pub earlier_grouped : Expression → Links → Expression
  earlier_grouped left no_links = left
  earlier_grouped left (operand sign a ls) = earlier_grouped (earlier_linked sign left (earlier_expression a)) ls
  earlier_grouped left (attribute c ls) = earlier_grouped (e.unary (Get (text_of c)) left) ls
  earlier_grouped left (method name ms ls) = earlier_grouped (earlier_applied (earlier_method_of name) left (earlier_expressions ms)) ls

  -- What members or arguments were, in order (Cedar language reference, data types: Set).
  pub earlier_expressions : Members → Expressions
  earlier_expressions no_members = e.no_more
  earlier_expressions (member a ms) = e.and_then (earlier_expression a) (earlier_expressions ms)

  -- What the entries of a record were, in order (Cedar language reference, data types: Record).
  pub earlier_entries : Fields → Entries
  earlier_entries no_fields = e.no_entries
  earlier_entries (field key a fs) = e.entry (text_of key) (earlier_expression a) (earlier_entries fs)

-- What a condition was (Cedar language reference, policies).
abbrev pub earlier_condition : WrittenCondition → Condition
earlier_condition c = record { kind = c.kind; body = earlier_expression c.body }

-- The policy of this id that a statement was: that of today with the earlier conditions (Cedar language reference, policies).
abbrev pub earlier_policy : List ℕ → StatementTree → PolicyTree
earlier_policy id s = record (to_policy id s) { conditions = map earlier_condition s.conditions }

-- The template of this id that a statement was: that of today with the earlier conditions (Cedar language reference, policy
-- templates).
abbrev pub earlier_template : List ℕ → StatementTree → TemplateTree
earlier_template id s = record (to_template id s) { conditions = map earlier_condition s.conditions }

-- The policy or template that the statement at a position from 0 was (Cedar language reference, policy templates).
abbrev pub earlier_statement : ℕ → StatementTree → Statement
earlier_statement n s = if has_slot s.scope then statement.Template (earlier_template (id_at n s) s) else statement.Policy (earlier_policy (id_at n s) s)

-- The set after the policies and templates that statements were are entered, one after another. The first statement is at this
-- position (own).
abbrev pub earlier_entered : PolicySetTree → ℕ → List StatementTree → PolicySetTree
earlier_entered before n [] = before
earlier_entered before n (s ∷ ss) = earlier_entered (entered before (earlier_statement n s)) (n + 1) ss
