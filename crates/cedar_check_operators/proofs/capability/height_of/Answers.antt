use Rattle.std.proofs.Common.{◌≡◌, sym, ap, ◌∙◌}
use Rattle.cedar_ast_expressions.specs.Expression.{unary}
use Rattle.cedar_check_operators.specs.Private.Height.{height_from}
use Rattle.cedar_check_operators.proofs.Heights.{height_end}
use Rattle.cedar_check_operators.proofs.capability.height_of.Goals as goal

pub down-preserved : goal.down-preserved
down-preserved c =
    let operator = c.in-Unary.field-0 in
    let own : c.down.rest.now ≡ unary operator c.in-Unary.operand.value = cc in
    let same : c.down.rest.now ≡ unary operator c.deref-rest.result.now = own ∙ ap (unary operator) (sym c.deref-rest.ensures) in
    sym (ap (height_from c.down.height) same) ∙ c.down.invariant

pub returns : goal.returns
returns c = sym (height_end c.down.height c.kind.result.now c.in_default.not-Unary) ∙ ap (height_from c.down.height) c.kind.ensures ∙ c.down.invariant
