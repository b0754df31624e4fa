-- The tests of equality of operators and expressions are exact.
use Rattle.std.proofs.Common.{◌≡◌, Bool, true, false, ◌&&◌, refl, ap}
use Rattle.std.specs.Bool.{Decides}
use Rattle.std.specs.Cmp.{IsEquivalence, decided}
use Rattle.std.proofs.lemmas.Slice.Eq.{bytes_eq-Decides}
use Rattle.cedar_ext.specs.Private.ExtensionLemmas.{same_type-Decides}
use Rattle.cedar_ext.specs.declared.method.BinaryMethod.{BinaryMethod}
use Rattle.cedar_ext.specs.declared.method.BinaryMethod.TheVariants as method
use Rattle.cedar_ext.specs.declared.unary_method.UnaryMethod.{UnaryMethod}
use Rattle.cedar_ext.specs.declared.unary_method.UnaryMethod.TheVariants as unary_method
use Rattle.cedar_ext.specs.Private.SamePattern.{same_pattern-Decides}
use Rattle.cedar_value.specs.Private.Equality.{same-Decides}
use Rattle.cedar_ast_expressions.specs.declared.variable.Variable.{Variable}
use Rattle.cedar_ast_expressions.specs.declared.variable.Variable.TheVariants.{Principal, Action, Resource, Context}
use Rattle.cedar_ast_expressions.specs.declared.operator.UnaryOperator.{UnaryOperator}
use Rattle.cedar_ast_expressions.specs.declared.operator.UnaryOperator.TheVariants.{Not, Negate, Has, Get, Like, Is, Construct, IsEmpty, Call}
use Rattle.cedar_ast_expressions.specs.declared.operator.BinaryOperator.{BinaryOperator}
use Rattle.cedar_ast_expressions.specs.declared.operator.BinaryOperator.TheVariants as operator
use Rattle.cedar_ast_expressions.specs.Expression.{Expression, literal, variable, and, or, if_else, unary, binary, set_with, record_with, Expressions, no_more, and_then, Entries, no_entries, entry}
use Rattle.cedar_ast_expressions.specs.SameExpression.{same_variable, same_method, same_unary_method, same_binary}
unfoldable pub use Rattle.cedar_ast_expressions.specs.SameExpression.{same_unary, same_expression, same_expressions, same_entries}

both : (a b : Bool) {P Q : Type 0} → Decides a P → Decides b Q → Decides (a && b) (P × Q)
both true b p q = (λ e. (p.0 refl, q.0 e), λ h. q.1 h.1)
both false b p q = (λ e. absurd (cc), λ h. p.1 h.0)

same_variable-Decides : (x y : Variable) → Decides (same_variable x y) (x ≡ y)
same_variable-Decides Principal Principal = (λ e. refl, λ e. refl)
same_variable-Decides Action Action = (λ e. refl, λ e. refl)
same_variable-Decides Resource Resource = (λ e. refl, λ e. refl)
same_variable-Decides Context Context = (λ e. refl, λ e. refl)
same_variable-Decides _ _ = (λ e. absurd (cc), λ e. absurd (cc))

same_method-Decides : (a b : BinaryMethod) → Decides (same_method a b) (a ≡ b)
same_method-Decides method.LessThan method.LessThan = (λ e. refl, λ e. refl)
same_method-Decides method.LessThanOrEqual method.LessThanOrEqual = (λ e. refl, λ e. refl)
same_method-Decides method.GreaterThan method.GreaterThan = (λ e. refl, λ e. refl)
same_method-Decides method.GreaterThanOrEqual method.GreaterThanOrEqual = (λ e. refl, λ e. refl)
same_method-Decides method.IsInRange method.IsInRange = (λ e. refl, λ e. refl)
same_method-Decides method.Offset method.Offset = (λ e. refl, λ e. refl)
same_method-Decides method.DurationSince method.DurationSince = (λ e. refl, λ e. refl)
same_method-Decides _ _ = (λ e. absurd (cc), λ e. absurd (cc))

same_unary_method-Decides : (a b : UnaryMethod) → Decides (same_unary_method a b) (a ≡ b)
same_unary_method-Decides unary_method.IsIpv4 unary_method.IsIpv4 = (λ e. refl, λ e. refl)
same_unary_method-Decides unary_method.IsIpv6 unary_method.IsIpv6 = (λ e. refl, λ e. refl)
same_unary_method-Decides unary_method.IsLoopback unary_method.IsLoopback = (λ e. refl, λ e. refl)
same_unary_method-Decides unary_method.IsMulticast unary_method.IsMulticast = (λ e. refl, λ e. refl)
same_unary_method-Decides unary_method.ToDate unary_method.ToDate = (λ e. refl, λ e. refl)
same_unary_method-Decides unary_method.ToTime unary_method.ToTime = (λ e. refl, λ e. refl)
same_unary_method-Decides unary_method.ToMilliseconds unary_method.ToMilliseconds = (λ e. refl, λ e. refl)
same_unary_method-Decides unary_method.ToSeconds unary_method.ToSeconds = (λ e. refl, λ e. refl)
same_unary_method-Decides unary_method.ToMinutes unary_method.ToMinutes = (λ e. refl, λ e. refl)
same_unary_method-Decides unary_method.ToHours unary_method.ToHours = (λ e. refl, λ e. refl)
same_unary_method-Decides unary_method.ToDays unary_method.ToDays = (λ e. refl, λ e. refl)
same_unary_method-Decides _ _ = (λ e. absurd (cc), λ e. absurd (cc))

pub same_unary-Decides : (a b : UnaryOperator) → Decides (same_unary a b) (a ≡ b)
unfolding same_unary
same_unary-Decides Not Not = (λ e. refl, λ e. refl)
same_unary-Decides Negate Negate = (λ e. refl, λ e. refl)
same_unary-Decides (Has a) (Has b) = let d = bytes_eq-Decides a b in (λ e. ap Has (d.0 e), λ e. d.1 cc)
same_unary-Decides (Get a) (Get b) = let d = bytes_eq-Decides a b in (λ e. ap Get (d.0 e), λ e. d.1 cc)
same_unary-Decides (Like p) (Like q) = let d = same_pattern-Decides p q in (λ e. ap Like (d.0 e), λ e. d.1 cc)
same_unary-Decides (Is t) (Is u) = let d = bytes_eq-Decides t u in (λ e. ap Is (d.0 e), λ e. d.1 cc)
same_unary-Decides (Construct c) (Construct d) = let h = same_type-Decides c d in (λ e. ap Construct (h.0 e), λ e. h.1 cc)
same_unary-Decides IsEmpty IsEmpty = (λ e. refl, λ e. refl)
same_unary-Decides (Call m) (Call n) = let d = same_unary_method-Decides m n in (λ e. ap Call (d.0 e), λ e. d.1 cc)
same_unary-Decides _ _ = (λ e. absurd (cc), λ e. absurd (cc))

same_binary-Decides : (a b : BinaryOperator) → Decides (same_binary a b) (a ≡ b)
same_binary-Decides operator.Equal operator.Equal = (λ e. refl, λ e. refl)
same_binary-Decides operator.Less operator.Less = (λ e. refl, λ e. refl)
same_binary-Decides operator.LessEqual operator.LessEqual = (λ e. refl, λ e. refl)
same_binary-Decides operator.Add operator.Add = (λ e. refl, λ e. refl)
same_binary-Decides operator.Subtract operator.Subtract = (λ e. refl, λ e. refl)
same_binary-Decides operator.Multiply operator.Multiply = (λ e. refl, λ e. refl)
same_binary-Decides operator.In operator.In = (λ e. refl, λ e. refl)
same_binary-Decides operator.Contains operator.Contains = (λ e. refl, λ e. refl)
same_binary-Decides operator.ContainsAll operator.ContainsAll = (λ e. refl, λ e. refl)
same_binary-Decides operator.ContainsAny operator.ContainsAny = (λ e. refl, λ e. refl)
same_binary-Decides (operator.Call m) (operator.Call n) = let h = same_method-Decides m n in (λ e. ap operator.Call (h.0 e), λ e. h.1 cc)
same_binary-Decides _ _ = (λ e. absurd (cc), λ e. absurd (cc))

mutual
  unfolding same_expression same_expressions same_entries

  pub same_expression-Decides : (a b : Expression) → Decides (same_expression a b) (a ≡ b)
  same_expression-Decides (literal d) (literal e) = let h = same-Decides d e in (λ p. ap literal (h.0 p), λ p. h.1 cc)
  same_expression-Decides (variable x) (variable y) = let h = same_variable-Decides x y in (λ p. ap variable (h.0 p), λ p. h.1 cc)
  same_expression-Decides (and a b) (and c d) =
      let h = both _ _ (same_expression-Decides a c) (same_expression-Decides b d) in
      (λ p. let q = h.0 p in λ i. and (q.0 i) (q.1 i), λ p. h.1 (cc, cc))
  same_expression-Decides (or a b) (or c d) =
      let h = both _ _ (same_expression-Decides a c) (same_expression-Decides b d) in
      (λ p. let q = h.0 p in λ i. or (q.0 i) (q.1 i), λ p. h.1 (cc, cc))
  same_expression-Decides (if_else a b c) (if_else d e f) =
      let h = both _ _ (same_expression-Decides a d) (both _ _ (same_expression-Decides b e) (same_expression-Decides c f)) in
      (λ p. let q = h.0 p in λ i. if_else (q.0 i) (q.1.0 i) (q.1.1 i), λ p. h.1 (cc, (cc, cc)))
  same_expression-Decides (unary op a) (unary other b) =
      let h = both _ _ (same_unary-Decides op other) (same_expression-Decides a b) in
      (λ p. let q = h.0 p in λ i. unary (q.0 i) (q.1 i), λ p. h.1 (cc, cc))
  same_expression-Decides (binary op a b) (binary other c d) =
      let h = both _ _ (same_binary-Decides op other) (both _ _ (same_expression-Decides a c) (same_expression-Decides b d)) in
      (λ p. let q = h.0 p in λ i. binary (q.0 i) (q.1.0 i) (q.1.1 i), λ p. h.1 (cc, (cc, cc)))
  same_expression-Decides (set_with es) (set_with fs) = let h = same_expressions-Decides es fs in (λ p. ap set_with (h.0 p), λ p. h.1 cc)
  same_expression-Decides (record_with es) (record_with fs) = let h = same_entries-Decides es fs in (λ p. ap record_with (h.0 p), λ p. h.1 cc)
  same_expression-Decides _ _ = (λ e. absurd (cc), λ e. absurd (cc))

  same_expressions-Decides : (es fs : Expressions) → Decides (same_expressions es fs) (es ≡ fs)
  same_expressions-Decides no_more no_more = (λ e. refl, λ e. refl)
  same_expressions-Decides (and_then e es) (and_then f fs) =
      let h = both _ _ (same_expression-Decides e f) (same_expressions-Decides es fs) in
      (λ p. let q = h.0 p in λ i. and_then (q.0 i) (q.1 i), λ p. h.1 (cc, cc))
  same_expressions-Decides _ _ = (λ e. absurd (cc), λ e. absurd (cc))

  same_entries-Decides : (es fs : Entries) → Decides (same_entries es fs) (es ≡ fs)
  same_entries-Decides no_entries no_entries = (λ e. refl, λ e. refl)
  same_entries-Decides (entry k e es) (entry l f fs) =
      let h = both _ _ (bytes_eq-Decides k l) (both _ _ (same_expression-Decides e f) (same_entries-Decides es fs)) in
      (λ p. let q = h.0 p in λ i. entry (q.0 i) (q.1.0 i) (q.1.1 i), λ p. h.1 (cc, (cc, cc)))
  same_entries-Decides _ _ = (λ e. absurd (cc), λ e. absurd (cc))

pub unary_equivalence : IsEquivalence same_unary
unary_equivalence = decided same_unary same_unary-Decides

pub expression_equivalence : IsEquivalence same_expression
expression_equivalence = decided same_expression same_expression-Decides
