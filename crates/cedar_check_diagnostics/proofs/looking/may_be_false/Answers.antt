use Rattle.std.proofs.Common.{ap, sym, ◌∙◌}
use Rattle.cedar_check_operators.specs.View.{held_view, typed_view, typing_view}
use Rattle.cedar_check_diagnostics.specs.Private.Truths.{may_fail}
use Rattle.cedar_check_diagnostics.proofs.Typed.{never_false}
use Rattle.cedar_check_diagnostics.proofs.looking.may_be_false.Goals as goal

pub returns-in-Typed : goal.returns-in-Typed
returns-in-Typed c never =
    never_false c.args.checking.settings c.args.checking.schema.now c.args.checking.environment.now (held_view c.args.held.now) c.args.expression.now (typing_view c.in_ok-typing.typing) (typed_view c.in-Typed.x) (ap typing_view c.in-Typed.is) c.in_ok-typing.ensures
    (sym (c.may_fail.ensures ∙ ap may_fail c.truth.ensures) ∙ never)
