-- What an expression of the earlier grammar meant is what it means.
use Rattle.std.proofs.Common.{◌≡◌, ℕ, ◌+◌, List, [], ◌∷◌, Bool, true, false, cond, Option, Some, None, IsSome, IsTrue, All, codes, refl, sym, subst, ap, ◌∙◌, map}
use Rattle.std.proofs.lemmas.List.Elements.{All-head, All-tail}
use Rattle.std.specs.Str.{bytes_eq}
use Rattle.cedar_ext.specs.Extensions.{constructor_in, constructor_named, in_language}
use Rattle.cedar_ext.specs.declared.language.Language.TheVariants.{Profile}
use Rattle.cedar_ext.specs.declared.method.BinaryMethod.{BinaryMethod}
use Rattle.cedar_ext.specs.declared.unary_method.UnaryMethod.{UnaryMethod}
use Rattle.cedar_parser_limits.specs.Limits.{has_operator}
use Rattle.cedar_ext.specs.declared.extension.ExtensionType.{ExtensionType}
use Rattle.cedar_ext.specs.declared.extension.ExtensionType.TheVariants as constructor
use Rattle.cedar_ext.specs.declared.method.BinaryMethod.TheVariants as method_called
use Rattle.cedar_ast_expressions.specs.declared.operator.UnaryOperator.TheVariants.{Not, Negate, Has, Get, Like, Is}
use Rattle.cedar_ast_expressions.specs.declared.operator.BinaryOperator.{BinaryOperator}
use Rattle.cedar_ast_expressions.specs.declared.operator.BinaryOperator.TheVariants as operator
use Rattle.cedar_ast_expressions.specs.Expression as e
use Rattle.cedar_ast_expressions.specs.Expression.{Expression, Expressions}
use Rattle.cedar_ast.specs.declared.statement.Statement.{Statement}
use Rattle.cedar_ast.specs.declared.statement.Statement.TheVariants as statement
use Rattle.cedar_ast.specs.PolicySetTree.{PolicySetTree, entered}
use Rattle.cedar_parser_tokens.specs.Content.{text_of}
use Rattle.cedar_parser_tree.specs.declared.sign.ChainSign.{ChainSign}
use Rattle.cedar_parser_tree.specs.declared.sign.ChainSign.TheVariants as chain_sign
use Rattle.cedar_parser_tree.specs.declared.sign.RelationSign.{RelationSign}
use Rattle.cedar_parser_tree.specs.declared.sign.RelationSign.TheVariants as relation_sign
use Rattle.cedar_parser_tree.specs.declared.written_statement.WrittenCondition.{WrittenCondition}
use Rattle.cedar_parser_tree.specs.Written.{Written, group, not, negated, relation, has, like, is, is_in, chain, choice, set, record_of, call, Links, no_links, operand, attribute, method, Members, no_members, member, Fields, no_fields, field}
use Rattle.cedar_parser_tree.specs.StatementTree.{StatementTree}
use Rattle.cedar_parser_statements.proofs.EarlierPaths.{HasNoPath, LinksHaveNoPath, MembersHaveNoPath, FieldsHaveNoPath, AskForNoPath}
use Rattle.cedar_parser_limits.specs.declared.functions.Method.{Method}
use Rattle.cedar_parser_limits.specs.declared.functions.Method.TheVariants.{Binary}
use Rattle.cedar_parser_limits.specs.Meaning.{linked, related, method_or_empty, method_of, called, applied, asked_of, to_expression, to_expressions, to_entries, grouped}
use Rattle.cedar_parser_limits.specs.StatementMeaning.{to_condition, to_policy, to_template, statement_of, id_at, has_slot, entered_from}
use Rattle.cedar_parser.specs.EarlierMeaning.{earlier_method_of, earlier_linked, earlier_related, earlier_call, earlier_applied, earlier_expression, earlier_expressions, earlier_entries, earlier_grouped, earlier_condition, earlier_policy, earlier_template, earlier_statement, earlier_entered}
use Rattle.cedar_parser.specs.Earlier.{UsesEarlier, LinksUseEarlier, MembersUseEarlier, FieldsUseEarlier}

-- ---- functions and methods

-- by which of the names it is
by_names : (a b c d e f g h : Bool) (alone : Option UnaryMethod) (others : Option BinaryMethod) (op : BinaryOperator)
    → cond a (Some operator.Contains) (cond b (Some operator.ContainsAll) (cond c (Some operator.ContainsAny) (cond d (Some (operator.Call method_called.LessThan)) (cond e (Some (operator.Call method_called.LessThanOrEqual))
    (cond f (Some (operator.Call method_called.GreaterThan)) (cond g (Some (operator.Call method_called.GreaterThanOrEqual)) None)))))) ≡ Some op
    → cond a (Some (Binary operator.Contains)) (cond b (Some (Binary operator.ContainsAll)) (cond c (Some (Binary operator.ContainsAny))
    (method_or_empty h alone (cond d (Some method_called.LessThan) (cond e (Some method_called.LessThanOrEqual) (cond f (Some method_called.GreaterThan) (cond g (Some method_called.GreaterThanOrEqual) others)))))))
    ≡ Some (Binary op)
by_names false false false false false false false h alone others op q = absurd cc
by_names _ _ _ _ _ _ _ h alone others op q = cc

pub earlier_method : (name : List ℕ) (op : BinaryOperator) → earlier_method_of name ≡ Some op → method_of name ≡ Some (Binary op)
earlier_method name op =
    by_names (bytes_eq name (codes "contains")) (bytes_eq name (codes "containsAll")) (bytes_eq name (codes "containsAny")) (bytes_eq name (codes "lessThan"))
    (bytes_eq name (codes "lessThanOrEqual")) (bytes_eq name (codes "greaterThan")) (bytes_eq name (codes "greaterThanOrEqual")) (bytes_eq name (codes "isEmpty")) _ _ op

one : {a b : BinaryOperator} → Some a ≡ Some b → a ≡ b
one q = cc

-- each operator of these names is one of the profile
in_profile_by : (a b c d e f g : Bool) (op : BinaryOperator)
    → cond a (Some operator.Contains) (cond b (Some operator.ContainsAll) (cond c (Some operator.ContainsAny) (cond d (Some (operator.Call method_called.LessThan)) (cond e (Some (operator.Call method_called.LessThanOrEqual))
    (cond f (Some (operator.Call method_called.GreaterThan)) (cond g (Some (operator.Call method_called.GreaterThanOrEqual)) None)))))) ≡ Some op
    → IsTrue (has_operator Profile op)
in_profile_by true b c d e f g op q = subst (λ (o : BinaryOperator). IsTrue (has_operator Profile o)) (one q) refl
in_profile_by false true c d e f g op q = subst (λ (o : BinaryOperator). IsTrue (has_operator Profile o)) (one q) refl
in_profile_by false false true d e f g op q = subst (λ (o : BinaryOperator). IsTrue (has_operator Profile o)) (one q) refl
in_profile_by false false false true e f g op q = subst (λ (o : BinaryOperator). IsTrue (has_operator Profile o)) (one q) refl
in_profile_by false false false false true f g op q = subst (λ (o : BinaryOperator). IsTrue (has_operator Profile o)) (one q) refl
in_profile_by false false false false false true g op q = subst (λ (o : BinaryOperator). IsTrue (has_operator Profile o)) (one q) refl
in_profile_by false false false false false false true op q = subst (λ (o : BinaryOperator). IsTrue (has_operator Profile o)) (one q) refl
in_profile_by false false false false false false false op q = absurd cc

pub earlier_operator : (name : List ℕ) (op : BinaryOperator) → earlier_method_of name ≡ Some op → IsTrue (has_operator Profile op)
earlier_operator name op =
    in_profile_by (bytes_eq name (codes "contains")) (bytes_eq name (codes "containsAll")) (bytes_eq name (codes "containsAny")) (bytes_eq name (codes "lessThan"))
    (bytes_eq name (codes "lessThanOrEqual")) (bytes_eq name (codes "greaterThan")) (bytes_eq name (codes "greaterThanOrEqual")) op

-- a method that there was, with what it is today
pub known_method : (o : Option BinaryOperator) (m : Option Method) → IsSome o → ((op : BinaryOperator) → o ≡ Some op → m ≡ Some (Binary op)) → (op : BinaryOperator) × (o ≡ Some op) × (m ≡ Some (Binary op))
known_method None m h f = absurd cc
known_method (Some op) m h f = (op, refl, f op refl)

same_applied : (op : BinaryOperator) (left : Expression) (es : Expressions) → earlier_applied (Some op) left es ≡ applied (Some (Binary op)) left es
same_applied op left e.no_more = refl
same_applied op left (e.and_then a e.no_more) = refl
same_applied op left (e.and_then a (e.and_then b es)) = refl

same_method : (o : Option BinaryOperator) (m : Option Method) (left : Expression) (es : Expressions) → IsSome o → ((op : BinaryOperator) → o ≡ Some op → m ≡ Some (Binary op))
    → earlier_applied o left es ≡ applied m left es
same_method o m left es h f =
    let known = known_method o m h f in
    subst (λ (x : Option BinaryOperator). earlier_applied x left es ≡ applied m left es) (sym known.1)
    (subst (λ (x : Option Method). earlier_applied (Some known.0) left es ≡ applied x left es) (sym known.2) (same_applied known.0 left es))

by_name : (b : Bool) (others : Option ExtensionType) → IsTrue b → cond b (Some constructor.Decimal) others ≡ Some constructor.Decimal
by_name true others h = refl
by_name false others h = absurd cc

pub earlier_constructor : (name : List ℕ) → IsTrue (bytes_eq name (codes "decimal")) → constructor_named name ≡ Some constructor.Decimal
earlier_constructor name h = by_name (bytes_eq name (codes "decimal")) _ h

pub earlier_function : (name : List ℕ) → IsTrue (bytes_eq name (codes "decimal")) → constructor_in Profile name ≡ Some constructor.Decimal
earlier_function name h = ap (in_language Profile) (earlier_constructor name h)

same_called : (es : Expressions) → earlier_call es ≡ called (Some constructor.Decimal) es
same_called e.no_more = refl
same_called (e.and_then a e.no_more) = refl
same_called (e.and_then a (e.and_then b es)) = refl

same_call : (o : Option ExtensionType) (es : Expressions) → o ≡ Some constructor.Decimal → earlier_call es ≡ called o es
same_call o es h = subst (λ (x : Option ExtensionType). earlier_call es ≡ called x es) (sym h) (same_called es)

-- ---- signs and paths

same_linked : (s : ChainSign) (a b : Expression) → earlier_linked s a b ≡ linked s a b
same_linked chain_sign.Or a b = refl
same_linked _ a b = refl

same_related : (s : RelationSign) (a b : Expression) → earlier_related s a b ≡ related s a b
same_related relation_sign.Less a b = refl
same_related _ a b = refl

one_asked : (x : Expression) (a : List ℕ) (more : List (List ℕ)) → more ≡ [] → e.unary (Has a) x ≡ asked_of x a more
one_asked x a more h = subst (λ (m : List (List ℕ)). e.unary (Has a) x ≡ asked_of x a m) (sym h) refl

-- ---- expressions

mutual
  pub same_expression : (w : Written) → HasNoPath w → UsesEarlier w → earlier_expression w ≡ to_expression w
  same_expression (group a) p u = same_expression a p u
  same_expression (not a) p u = ap (λ (x : Expression). e.unary Not x) (same_expression a p u)
  same_expression (negated a) p u = ap (λ (x : Expression). e.unary Negate x) (same_expression a p u)
  same_expression (relation s a b) p u =
      (λ k. earlier_related s (same_expression a p.0 u.0 k) (same_expression b p.1 u.1 k)) ∙ same_related s (to_expression a) (to_expression b)
  same_expression (has a c more) p u =
      ap (λ (x : Expression). e.unary (Has (text_of c)) x) (same_expression a p.1 u) ∙ one_asked (to_expression a) (text_of c) more p.0
  same_expression (like a q) p u = ap (λ (x : Expression). e.unary (Like q) x) (same_expression a p u)
  same_expression (is a ty) p u = ap (λ (x : Expression). e.unary (Is ty) x) (same_expression a p u)
  same_expression (is_in a ty b) p u =
      λ k. e.and (e.unary (Is ty) (same_expression a p.0 u.0 k)) (e.binary operator.In (same_expression a p.0 u.0 k) (same_expression b p.1 u.1 k))
  same_expression (chain a ls) p u = same_grouped ls p.1 u.1 (earlier_expression a) (to_expression a) (same_expression a p.0 u.0)
  same_expression (choice c a b) p u =
      λ k. e.if_else (same_expression c p.0 u.0 k) (same_expression a p.1 u.1 k) (same_expression b p.2 u.2 k)
  same_expression (set ms) p u = ap e.set_with (same_expressions ms p u)
  same_expression (record_of fs) p u = ap e.record_with (same_entries fs p u)
  same_expression (call name ms) p u =
      ap earlier_call (same_expressions ms p u.2) ∙ same_call (constructor_named name) (to_expressions ms) (earlier_constructor name u.0)
  same_expression _ p u = refl

  pub same_grouped : (ls : Links) → LinksHaveNoPath ls → LinksUseEarlier ls → (left right : Expression) → left ≡ right → earlier_grouped left ls ≡ grouped right ls
  same_grouped no_links p u left right q = q
  same_grouped (operand s a ls) p u left right q =
      same_grouped ls p.1 u.1 (earlier_linked s left (earlier_expression a)) (linked s right (to_expression a))
      ((λ k. earlier_linked s (q k) (same_expression a p.0 u.0 k)) ∙ same_linked s right (to_expression a))
  same_grouped (attribute c ls) p u left right q =
      same_grouped ls p u (e.unary (Get (text_of c)) left) (e.unary (Get (text_of c)) right) (ap (λ (x : Expression). e.unary (Get (text_of c)) x) q)
  same_grouped (method name ms ls) p u left right q =
      same_grouped ls p.1 u.3 (earlier_applied (earlier_method_of name) left (earlier_expressions ms)) (applied (method_of name) right (to_expressions ms))
      ((λ k. earlier_applied (earlier_method_of name) (q k) (same_expressions ms p.0 u.2 k))
      ∙ same_method (earlier_method_of name) (method_of name) right (to_expressions ms) u.0 (earlier_method name))

  pub same_expressions : (ms : Members) → MembersHaveNoPath ms → MembersUseEarlier ms → earlier_expressions ms ≡ to_expressions ms
  same_expressions no_members p u = refl
  same_expressions (member a ms) p u = λ k. e.and_then (same_expression a p.0 u.0 k) (same_expressions ms p.1 u.1 k)

  pub same_entries : (fs : Fields) → FieldsHaveNoPath fs → FieldsUseEarlier fs → earlier_entries fs ≡ to_entries fs
  same_entries no_fields p u = refl
  same_entries (field key a fs) p u = λ k. e.entry (text_of key) (same_expression a p.0 u.0 k) (same_entries fs p.1 u.1 k)

-- ---- statements

abbrev UseEarlier : List WrittenCondition → Type 0
UseEarlier cs = All (λ (c : WrittenCondition). UsesEarlier c.body) cs

pub same_conditions : (cs : List WrittenCondition) → AskForNoPath cs → UseEarlier cs → map earlier_condition cs ≡ map to_condition cs
same_conditions [] p u = refl
same_conditions (c ∷ cs) p u =
    let body = same_expression c.body (All-head (λ (c : WrittenCondition). HasNoPath c.body) c cs p) (All-head (λ (c : WrittenCondition). UsesEarlier c.body) c cs u) in
    let rest = same_conditions cs (All-tail (λ (c : WrittenCondition). HasNoPath c.body) c cs p) (All-tail (λ (c : WrittenCondition). UsesEarlier c.body) c cs u) in
    λ k. record { kind = c.kind; body = body k } ∷ rest k

pub same_policy : (id : List ℕ) (s : StatementTree) → AskForNoPath s.conditions → UseEarlier s.conditions → earlier_policy id s ≡ to_policy id s
same_policy id s p u = let q = same_conditions s.conditions p u in λ k. record (to_policy id s) { conditions = q k }

same_template : (id : List ℕ) (s : StatementTree) → AskForNoPath s.conditions → UseEarlier s.conditions → earlier_template id s ≡ to_template id s
same_template id s p u = let q = same_conditions s.conditions p u in λ k. record (to_template id s) { conditions = q k }

pub same_statement : (n : ℕ) (s : StatementTree) → AskForNoPath s.conditions → UseEarlier s.conditions → earlier_statement n s ≡ statement_of n s
same_statement n s p u =
    let template = same_template (id_at n s) s p u in
    let policy = same_policy (id_at n s) s p u in
    λ k. cond (has_slot s.scope) (statement.Template (template k)) (statement.Policy (policy k))

pub same_entered : (ss : List StatementTree) → All (λ (s : StatementTree). AskForNoPath s.conditions) ss → All (λ (s : StatementTree). UseEarlier s.conditions) ss
    → (before : PolicySetTree) (n : ℕ) → earlier_entered before n ss ≡ entered_from before n ss
same_entered [] p u before n = refl
same_entered (s ∷ ss) p u before n =
    let first = same_statement n s (All-head (λ (s : StatementTree). AskForNoPath s.conditions) s ss p) (All-head (λ (s : StatementTree). UseEarlier s.conditions) s ss u) in
    subst (λ (x : Statement). earlier_entered (entered before x) (n + 1) ss ≡ entered_from (entered before (statement_of n s)) (n + 1) ss) (sym first)
    (same_entered ss (All-tail (λ (s : StatementTree). AskForNoPath s.conditions) s ss p) (All-tail (λ (s : StatementTree). UseEarlier s.conditions) s ss u) (entered before (statement_of n s)) (n + 1))
