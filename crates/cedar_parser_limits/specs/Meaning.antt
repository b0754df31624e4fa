-- The expression that is written (Cedar language reference, grammar; operators).
use Rattle.std.specs.Prelude.{false, ℕ, Bool, pos, neg_ℤ, List, [], ◌∷◌, Option, Some, None, codes, if◌then◌else◌}
use Rattle.std.specs.Str.{bytes_eq}
use Rattle.cedar_ext.specs.declared.extension.ExtensionType.{ExtensionType}
use Rattle.cedar_ext.specs.declared.method.BinaryMethod.{BinaryMethod}
use Rattle.cedar_ext.specs.declared.unary_method.UnaryMethod.{UnaryMethod}
use Rattle.cedar_ext.specs.Extensions.{constructor_named}
use Rattle.cedar_ext.specs.Methods.{method_named}
use Rattle.cedar_ext.specs.UnaryMethods.{unary_named}
use Rattle.cedar_value.specs.Datum as datum
use Rattle.cedar_ast_expressions.specs.declared.operator.UnaryOperator.TheVariants.{Not, Negate, Has, Get, Like, Is, Construct, IsEmpty, Call}
use Rattle.cedar_ast_expressions.specs.declared.operator.BinaryOperator.TheVariants as operator
use Rattle.cedar_ast_expressions.specs.Expression as e
use Rattle.cedar_ast_expressions.specs.Expression.{Expression, Expressions, Entries}
use Rattle.cedar_parser_tree.specs.declared.sign.ChainSign.{ChainSign}
use Rattle.cedar_parser_tree.specs.declared.sign.ChainSign.TheVariants as chain_sign
use Rattle.cedar_parser_tree.specs.declared.sign.RelationSign.{RelationSign}
use Rattle.cedar_parser_tree.specs.declared.sign.RelationSign.TheVariants as relation_sign
use Rattle.cedar_parser_limits.specs.declared.functions.Method.{Method}
use Rattle.cedar_parser_limits.specs.declared.functions.Method.TheVariants as m
use Rattle.cedar_parser_tokens.specs.Content.{text_of}
use Rattle.cedar_parser_tokens.specs.Names.{to_uid}
use Rattle.cedar_parser_tree.specs.Written.{Written, truth, number, negative, text, entity, variable, slot, group, not, negated, relation, has, like, is, is_in, chain, choice, set, record_of, call, Links, no_links, operand, attribute, method, Members, no_members, member, Fields, no_fields, field}

-- The expression of two operands with this sign between them (Cedar language reference, operators).
abbrev pub linked : ChainSign → Expression → Expression → Expression
linked chain_sign.Or a b = e.or a b
linked chain_sign.And a b = e.and a b
linked chain_sign.Plus a b = e.binary operator.Add a b
linked chain_sign.Minus a b = e.binary operator.Subtract a b
linked chain_sign.Times a b = e.binary operator.Multiply a b

-- The expression of a relation: `!=`, `>` and `>=` deny `==`, `<=` and `<` (Cedar language reference, operators).
abbrev pub related : RelationSign → Expression → Expression → Expression
related relation_sign.Less a b = e.binary operator.Less a b
related relation_sign.LessEqual a b = e.binary operator.LessEqual a b
related relation_sign.Greater a b = e.unary Not (e.binary operator.LessEqual a b)
related relation_sign.GreaterEqual a b = e.unary Not (e.binary operator.Less a b)
related relation_sign.Equal a b = e.binary operator.Equal a b
related relation_sign.NotEqual a b = e.unary Not (e.binary operator.Equal a b)
related relation_sign.In a b = e.binary operator.In a b

-- A method of an extension type that takes one argument, where there is one; else one that takes none, where there is one; else
-- `isEmpty`, where that is the name (Cedar language reference, functions).
abbrev pub method_or_empty : (is_empty : Bool) → Option UnaryMethod → Option BinaryMethod → Option Method
method_or_empty is_empty alone (Some named) = Some (m.Binary (operator.Call named))
method_or_empty is_empty (Some named) None = Some (m.Unary named)
method_or_empty is_empty None None = if is_empty then Some m.IsEmpty else None

-- What the method of this name does (Cedar language reference, functions).
abbrev pub method_of : List ℕ → Option Method
method_of name =
    if bytes_eq name (codes "contains") then Some (m.Binary operator.Contains)
    else (if bytes_eq name (codes "containsAll") then Some (m.Binary operator.ContainsAll)
    else (if bytes_eq name (codes "containsAny") then Some (m.Binary operator.ContainsAny)
    else method_or_empty (bytes_eq name (codes "isEmpty")) (unary_named name) (method_named name)))

-- The call of a function of one argument. A call of an unknown function or with other arguments is refused, and this is not its
-- meaning (Cedar language reference, functions).
abbrev pub called : Option ExtensionType → Expressions → Expression
called (Some ty) (e.and_then a e.no_more) = e.unary (Construct ty) a
called _ _ = e.literal (datum.boolean false)

-- A method of one argument or of none. An unknown method, or one with other arguments, is refused, and this is not its meaning
-- (Cedar language reference, functions).
abbrev pub applied : Option Method → Expression → Expressions → Expression
applied (Some (m.Binary op)) left (e.and_then a e.no_more) = e.binary op left a
applied (Some m.IsEmpty) left e.no_more = e.unary IsEmpty left
applied (Some (m.Unary named)) left e.no_more = e.unary (Call named) left
applied _ left _ = left

-- The tests so far and then, for each further attribute, whether the place so far has it; the next place is that attribute
-- (Cedar language reference, operators: has).
abbrev pub asked_from : (asked place : Expression) → List (List ℕ) → Expression
asked_from asked place [] = asked
asked_from asked place (a ∷ more) = asked_from (e.and asked (e.unary (Has a) place)) (e.unary (Get a) place) more

-- What `has` tests: `x has a.b.c` is `(x has a && x.a has b) && x.a.b has c` (Cedar language reference, operators: has).
abbrev pub asked_of : Expression → (first : List ℕ) → (more : List (List ℕ)) → Expression
asked_of x a more = asked_from (e.unary (Has a) x) (e.unary (Get a) x) more

abbrev mutual
  -- The expression that is written: brackets are gone, chains group to the left, `x is T in e` tests both of x. A slot is
  -- refused, so its meaning does not matter (Cedar language reference, operators).
  pub to_expression : Written → Expression
  to_expression (truth b) = e.literal (datum.boolean b)
  to_expression (number n) = e.literal (datum.long (pos n))
  to_expression (negative n) = e.literal (datum.long (neg_ℤ (pos n)))
  to_expression (text c) = e.literal (datum.text (text_of c))
  to_expression (entity u) = e.literal (datum.uid (to_uid u))
  to_expression (variable x) = e.variable x
  to_expression (slot x) = e.variable x
  to_expression (group a) = to_expression a
  to_expression (not a) = e.unary Not (to_expression a)
  to_expression (negated a) = e.unary Negate (to_expression a)
  to_expression (relation sign a b) = related sign (to_expression a) (to_expression b)
  to_expression (has a c more) = asked_of (to_expression a) (text_of c) more
  to_expression (like a p) = e.unary (Like p) (to_expression a)
  to_expression (is a ty) = e.unary (Is ty) (to_expression a)
  to_expression (is_in a ty b) = e.and (e.unary (Is ty) (to_expression a)) (e.binary operator.In (to_expression a) (to_expression b))
  to_expression (chain a ls) = grouped (to_expression a) ls
  to_expression (choice c a b) = e.if_else (to_expression c) (to_expression a) (to_expression b)
  to_expression (set ms) = e.set_with (to_expressions ms)
  to_expression (record_of fs) = e.record_with (to_entries fs)
  to_expression (call name ms) = called (constructor_named name) (to_expressions ms)

  -- The expression to the left with each link after it, from left to right (Cedar language reference, operators).
  pub grouped : Expression → Links → Expression
  grouped left no_links = left
  grouped left (operand sign a ls) = grouped (linked sign left (to_expression a)) ls
  grouped left (attribute c ls) = grouped (e.unary (Get (text_of c)) left) ls
  grouped left (method name ms ls) = grouped (applied (method_of name) left (to_expressions ms)) ls

  -- The expressions of members or arguments, in order (Cedar language reference, data types: Set).
  pub to_expressions : Members → Expressions
  to_expressions no_members = e.no_more
  to_expressions (member a ms) = e.and_then (to_expression a) (to_expressions ms)

  -- The keys and the expressions of the entries of a record, in order (Cedar language reference, data types: Record).
  pub to_entries : Fields → Entries
  to_entries no_fields = e.no_entries
  to_entries (field key a fs) = e.entry (text_of key) (to_expression a) (to_entries fs)
