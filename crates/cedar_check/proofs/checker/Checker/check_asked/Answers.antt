use Rattle.std.proofs.Common.{rules, ◌≡◌, [], Option, ap, subst, sym, ◌∙◌}
use Rattle.std.specs.Prelude.{IfOk}
use Rattle.cedar_schema_types.specs.declared.truth.Truth.TheVariants.{False}
use Rattle.cedar_ast_expressions.specs.Expression.{binary}
use Rattle.cedar_check_spec.specs.Capabilities.{Capabilities}
use Rattle.cedar_check_spec.specs.Rows.{Typed}
use Rattle.cedar_check_spec.specs.Private.Checking.{and_right, and_type, on_boolean, type_of_with}
use Rattle.cedar_check_operators.specs.View.{held_view, typed_view, typing_view}
use Rattle.cedar_check.proofs.Ways.{and_on}
use Rattle.cedar_check.proofs.checker.Checker.check_asked.Goals as goal

pub returns : goal.returns
returns c =
    let type_of = type_of_with c.args.self.now.settings c.args.self.now.schema.now c.args.self.now.environment.now in
    let asked = λ (k : Capabilities). type_of k (binary c.args.operator c.args.one.now c.args.two.now) in
    let truth = c.in-Some.truth in
    let unlike : truth ≡ False → ⊥ = search rules in
    subst (λ (r : Option Typed). IfOk c.and_right.result (λ y. typing_view y ≡ r))
    (ap (λ t. on_boolean t (and_right truth (held_view c.in-Typed.x.gained.items))) (c.in_ok-asked.ensures ∙ ap (λ l. asked (held_view l)) c.deref.ensures.value)
    ∙ and_on truth asked (typed_view c.in-Typed.x) (sym c.truth-known.ensures ∙ c.in-Some.is) unlike
    ∙ ap (λ t. on_boolean t (and_type [] asked)) (sym (ap typing_view c.in-Typed.is)))
    c.and_right.ensures
