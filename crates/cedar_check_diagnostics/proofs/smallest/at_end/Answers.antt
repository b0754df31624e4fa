use Rattle.std.proofs.Common.{get_or, ap, subst}
use Rattle.cedar_check_spec.specs.Capabilities.{Capabilities}
use Rattle.cedar_check_operators.specs.View.{held_view}
use Rattle.cedar_check_diagnostics.specs.Paths.{IsStep}
use Rattle.cedar_check_diagnostics.proofs.Ways.{below_part, below_same}
use Rattle.cedar_check_diagnostics.proofs.smallest.at_end.Goals as goal

pub walk-init : goal.walk-init
walk-init c =
    rw (c.in_ok-path.ensures.items, c.deref.ensures.value, c.in_ok-held.ensures, c.deref-2.ensures.value) (below_same c.args.checking.settings c.args.checking.schema.now c.args.checking.environment.now c.args.from.now.path.items (held_view c.args.from.now.held.items) c.args.from.now.part.now)

pub walk-preserved : goal.walk-preserved
walk-preserved c =
    let next = c.in-Some.next in
    let number = get_or c.args.way.now c.walk.number-index 0 in
    let gained = held_view next.gained.items in
    let step : IsStep c.args.checking.settings c.args.checking.schema.now c.args.checking.environment.now (held_view c.deref-in-walk.result.now) c.walk.part.now number gained next.part.now = rw c.in-Some.is at c.in_ok-found.ensures in
    let here = subst (λ (x : Capabilities). IsStep c.args.checking.settings c.args.checking.schema.now c.args.checking.environment.now x c.walk.part.now number gained next.part.now) (ap held_view c.deref-in-walk.ensures.value) step in
    rw (c.in_ok-push.ensures.items, c.in_ok-more.ensures) (below_part c.args.checking.settings c.args.checking.schema.now c.args.checking.environment.now c.args.from.now.path.items c.walk.path.items (held_view c.args.from.now.held.items) (held_view c.walk.held.items) c.args.from.now.part.now c.walk.part.now next.part.now number gained c.walk.invariant here)
