-- Expressions as trees of numbers, one to one, so that what contracts see may hold expressions.
use Rattle.std.specs.Prelude.{◌≡◌, ℕ, List, refl}
use Rattle.std.proofs.Common.{ap}
use base.Stored.{Gv, gnil, gnum, gcons, Coded, coded_ℕ, coded_list}
use Rattle.std.specs.Coded.{codes}
use Rattle.cedar_value.specs.Private.DatumCode.{datum_code}
use Rattle.cedar_ast_expressions.specs.declared.variable.Variable.{Variable}
use Rattle.cedar_ast_expressions.specs.declared.operator.UnaryOperator.{UnaryOperator}
use Rattle.cedar_ast_expressions.specs.declared.operator.BinaryOperator.{BinaryOperator}
use Rattle.cedar_ast_expressions.specs.Expression.{Expression, literal, variable, and, or, if_else, unary, binary, set_with, record_with, Expressions, no_more, and_then, Entries, no_entries, entry}

pub variable_code : Coded Variable
variable_code = Prim.hlevel codes

pub unary_code : Coded UnaryOperator
unary_code = Prim.hlevel codes

pub binary_code : Coded BinaryOperator
binary_code = Prim.hlevel codes

abbrev pub text_code : Coded (List ℕ)
text_code = coded_list coded_ℕ

abbrev mutual
  pub expression_tree : Expression → Gv
  expression_tree (literal d) = gcons (gnum 0) (datum_code.code d)
  expression_tree (variable x) = gcons (gnum 1) (variable_code.code x)
  expression_tree (and a b) = gcons (gnum 2) (gcons (expression_tree a) (expression_tree b))
  expression_tree (or a b) = gcons (gnum 3) (gcons (expression_tree a) (expression_tree b))
  expression_tree (unary op a) = gcons (gnum 4) (gcons (unary_code.code op) (expression_tree a))
  expression_tree (binary op a b) = gcons (gnum 5) (gcons (binary_code.code op) (gcons (expression_tree a) (expression_tree b)))
  expression_tree (if_else c a b) = gcons (gnum 6) (gcons (expression_tree c) (gcons (expression_tree a) (expression_tree b)))
  expression_tree (set_with es) = gcons (gnum 7) (all_tree es)
  expression_tree (record_with fs) = gcons (gnum 8) (entries_tree fs)

  pub all_tree : Expressions → Gv
  all_tree no_more = gnil
  all_tree (and_then e es) = gcons (expression_tree e) (all_tree es)

  pub entries_tree : Entries → Gv
  entries_tree no_entries = gnil
  entries_tree (entry k e fs) = gcons (text_code.code k) (gcons (expression_tree e) (entries_tree fs))

mutual
  pub expression_one : (e f : Expression) → expression_tree e ≡ expression_tree f → e ≡ f
  expression_one (literal d) (literal e) p = ap literal (datum_code.inj d e (cc))
  expression_one (variable x) (variable y) p = ap variable (variable_code.inj x y (cc))
  expression_one (and a b) (and c d) p = λ k. and (expression_one a c (cc) k) (expression_one b d (cc) k)
  expression_one (or a b) (or c d) p = λ k. or (expression_one a c (cc) k) (expression_one b d (cc) k)
  expression_one (unary op a) (unary o b) p = λ k. unary (unary_code.inj op o (cc) k) (expression_one a b (cc) k)
  expression_one (binary op a b) (binary o c d) p = λ k. binary (binary_code.inj op o (cc) k) (expression_one a c (cc) k) (expression_one b d (cc) k)
  expression_one (if_else x a b) (if_else y c d) p = λ k. if_else (expression_one x y (cc) k) (expression_one a c (cc) k) (expression_one b d (cc) k)
  expression_one (set_with es) (set_with fs) p = ap set_with (all_one es fs (cc))
  expression_one (record_with es) (record_with fs) p = ap record_with (entries_one es fs (cc))
  expression_one e f p = absurd (cc)

  pub all_one : (es fs : Expressions) → all_tree es ≡ all_tree fs → es ≡ fs
  all_one no_more no_more p = refl
  all_one (and_then e es) (and_then f fs) p = λ k. and_then (expression_one e f (cc) k) (all_one es fs (cc) k)
  all_one es fs p = absurd (cc)

  pub entries_one : (es fs : Entries) → entries_tree es ≡ entries_tree fs → es ≡ fs
  entries_one no_entries no_entries p = refl
  entries_one (entry k e es) (entry l f fs) p = λ i. entry (text_code.inj k l (cc) i) (expression_one e f (cc) i) (entries_one es fs (cc) i)
  entries_one es fs p = absurd (cc)

abbrev pub expression_code : Coded Expression
expression_code = record { code = expression_tree; inj = expression_one }
