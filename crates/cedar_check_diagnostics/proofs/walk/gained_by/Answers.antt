use Rattle.std.proofs.Common.{ap, sym, ◌∙◌}
use Rattle.cedar_check_operators.specs.View.{held_view, typed_view, typing_view}
use Rattle.cedar_check_diagnostics.specs.Private.Truths.{may_hold}
use Rattle.cedar_check_diagnostics.proofs.Typed.{gains_nothing}
use Rattle.cedar_check_diagnostics.proofs.walk.gained_by.Goals as goal

pub returns-clause-none : goal.returns-clause-none
returns-clause-none c =
    gains_nothing c.args.checking.settings c.args.checking.schema.now c.args.checking.environment.now (held_view c.args.held.now) c.args.guard.now (typing_view c.in_ok-typing.typing) (typed_view c.in-Typed.x) (ap typing_view c.in-Typed.is) c.in_ok-typing.ensures
    (sym (ap may_hold c.truth.ensures) ∙ sym c.if-may_hold.ensures)
