use Rattle.std.proofs.Common.{◌≡◌, ap, sym, subst, ◌∙◌}
use Rattle.std.specs.Bool.{Decides}
use Rattle.cedar_ext.specs.Private.SamePattern.{same_pattern-Decides}
use Rattle.cedar_ast_expressions.specs.declared.operator.UnaryOperator.TheVariants.{Like}
use Rattle.cedar_ast_expressions.proofs.operator.same_operator.Goals as goal

pub returns-in-Like-Like : goal.returns-in-Like-Like
returns-in-Like-Like c =
    let a = c.in-Like-Like.is-0 in
    let b = c.in-Like-Like.is-1 in
    let first = c.in-Like-Like.first in
    let second = c.in-Like-Like.second in
    let told : Decides c.eq-in-Like-Like.result (first ≡ second) = subst (λ r. Decides r (first ≡ second)) (sym c.eq-in-Like-Like.ensures) (same_pattern-Decides first second) in
    (λ h. a ∙ ap Like (told.0 h) ∙ sym b, λ e. told.1 (let f : Like first ≡ Like second = sym a ∙ e ∙ b in cc))
