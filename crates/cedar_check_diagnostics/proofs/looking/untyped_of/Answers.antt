use Rattle.std.proofs.Common.{◌≡◌, ◌++◌, ap, subst, ◌∙◌}
use Rattle.cedar_check_spec.specs.Capabilities.{Capabilities}
use Rattle.cedar_check_operators.specs.View.{held_view, typed_view, typing_view}
use Rattle.cedar_check_diagnostics.specs.Looking.{HasType}
use Rattle.cedar_check_diagnostics.specs.Paths.{IsStep}
use Rattle.cedar_check_diagnostics.proofs.Typed.{looked_at_typed, typing_has_type}
use Rattle.cedar_check_diagnostics.proofs.looking.untyped_of.Goals as goal

pub returns-in-Typed-clause-typed : goal.returns-in-Typed-clause-typed
returns-in-Typed-clause-typed c g p l =
    let settings = c.args.checking.settings in
    let s = c.args.checking.schema.now in
    let env = c.args.checking.environment.now in
    let held = held_view c.args.held.now in
    let step = c.in-Some.step in
    let more : held_view c.deref-2.result.now ≡ held ++ held_view step.gained.items = ap held_view c.deref-2.ensures.value ∙ c.in_ok-more.ensures ∙ ap (λ x. held ++ held_view x) c.deref.ensures.value in
    let there : IsStep settings s env held c.args.expression.now c.args.number (held_view step.gained.items) step.part.now = rw c.in-Some.is at c.in_ok-step.ensures.some in
    let typed = typing_has_type settings s env (held_view c.deref-2.result.now) step.part.now (typing_view c.in_ok-typing.typing) (typed_view c.in-Typed.field-0) (ap typing_view c.in-Typed.is) c.in_ok-typing.ensures in
    looked_at_typed settings s env held c.args.expression.now c.args.number (held_view step.gained.items) g step.part.now p there (subst (λ (h : Capabilities). HasType settings s env h step.part.now) more typed) l
