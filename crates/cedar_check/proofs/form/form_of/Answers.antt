use Rattle.std.proofs.Common.{IfOk, option_and_then, [], ap, subst, sym, ◌≡◌, ◌∙◌}
use Rattle.cedar_ast_expressions.specs.Expression.{Expression}
use Rattle.cedar_ast_expressions.specs.Replacement.{replace}
use Rattle.cedar_check_spec.specs.Rows.{truth_in}
use Rattle.cedar_check_spec.specs.Private.Checking.{type_of_with}
use Rattle.cedar_check.specs.Private.Condition.{condition_in, IsReady}
use Rattle.cedar_check.specs.Private.View.{form_view}
use Rattle.cedar_check.proofs.Unmentioned.{whole_replaced}
use Rattle.cedar_check.proofs.form.form_of.Goals as goal

pub returns-in-Parts : goal.returns-in-Parts
returns-in-Parts c =
    let u = c.args.environment.now.action in
    let p = c.in-Parts.parts in
    let ready = subst (IsReady c.args.schema.now) c.in-Parts.is c.requires in
    subst (λ (e : Expression). IfOk c.form_of_parts.result (λ form. form_view form ≡ option_and_then (λ x. truth_in x.ty) (type_of_with c.args.settings c.args.schema.now c.args.environment.now [] e)))
    (sym (whole_replaced u p.operator p.principal.now p.operand.now p.rest.now ready.0 ready.1.0 ready.1.1.0) ∙ ap (λ q. replace u (condition_in q)) (sym c.in-Parts.is))
    c.form_of_parts.ensures
