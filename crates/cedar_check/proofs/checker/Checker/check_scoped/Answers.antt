use Rattle.std.proofs.Common.{◌≡◌, [], Option, ap, subst, ◌∙◌}
use Rattle.std.specs.Prelude.{IfOk}
use Rattle.cedar_ast_expressions.specs.Expression.{binary}
use Rattle.cedar_check_spec.specs.Capabilities.{Capabilities}
use Rattle.cedar_check_spec.specs.Rows.{Typed}
use Rattle.cedar_check_spec.specs.Private.Checking.{and_type, on_boolean, type_of_with}
use Rattle.cedar_check_operators.specs.View.{typing_view}
use Rattle.cedar_check.proofs.Ways.{regrouped}
use Rattle.cedar_check.proofs.checker.Checker.check_scoped.Goals as goal

pub returns : goal.returns
returns c =
    let type_of = type_of_with c.args.self.now.settings c.args.self.now.schema.now c.args.self.now.environment.now in
    let rest = λ (k : Capabilities). type_of k c.args.parts.rest.now in
    let action = λ (k : Capabilities). type_of k (binary c.args.parts.operator c.args.action.now c.args.parts.operand.now) in
    subst (λ (r : Option Typed). IfOk c.check_and.result (λ y. typing_view y ≡ r))
    (ap (λ t. on_boolean t (and_type [] rest)) (c.in_ok-typing-2.ensures ∙ ap (λ t. on_boolean t (and_type [] action)) c.in_ok-typing.ensures)
    ∙ regrouped [] rest action (type_of [] c.args.parts.principal.now))
    c.check_and.ensures
