-- Heights of expressions.
use Rattle.std.proofs.Common.{◌≡◌, ℕ, Bool, true, false, refl, ap}
use Rattle.std.specs.Prelude.{◌&&◌}
use Rattle.cedar_ast_expressions.specs.ExprKind.{expression_of}
use Rattle.cedar_ast_expressions.specs.declared.expression.ExprKind.{ExprKind}
use Rattle.cedar_ast_expressions.specs.declared.expression.ExprKind.TheVariants.{Unary}
use Rattle.cedar_ast_expressions.specs.Private.SameExpression.{same_expression, same_expression-Decides}
use Rattle.cedar_check_spec.specs.Capabilities as spec
use Rattle.cedar_check_spec.specs.Private.Checking.{same_capability}
use Rattle.cedar_check_operators.specs.Private.Height.{height_from, height_of}

-- an expression that is not an operator on one operand ends the count
pub height_end : (n : ℕ) (k : ExprKind) → ((op : _) (e : _) → k ≡ Unary op e → ⊥) → height_from n (expression_of k) ≡ n
height_end n (Unary op e) not = absurd (not op e refl)
height_end n _ not = refl

none_same : (b s : Bool) → (s ≡ true → ⊥) → b && s ≡ false
none_same true true not = absurd (not refl)
none_same true false not = refl
none_same false s not = refl

-- what is not of one height is not equal
pub apart : (x y : spec.Capability) → (height_of x.on ≡ height_of y.on → ⊥) → same_capability x y ≡ false
apart x y not = none_same _ (same_expression x.on y.on) (λ same. not (ap height_of ((same_expression-Decides x.on y.on).0 same)))
