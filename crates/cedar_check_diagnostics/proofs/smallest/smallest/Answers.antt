use Rattle.std.proofs.Common.{◌++◌, [], None, ap, subst, arith}
use Rattle.cedar_check.specs.Typings.{IsTypingOf}
use Rattle.cedar_check_spec.specs.Capabilities.{Capabilities}
use Rattle.cedar_check_operators.specs.View.{held_view}
use Rattle.cedar_check_diagnostics.specs.Paths.{IsStep}
use Rattle.cedar_check_diagnostics.proofs.Smaller.{part_is_smaller}
use Rattle.cedar_check_diagnostics.proofs.Ways.{leads_on}
use Rattle.cedar_check_diagnostics.proofs.smallest.smallest.Goals as goal

pub down-smaller : goal.down-smaller
down-smaller c =
    let next = c.in-Some.next in
    let part = c.in_ok-further.further.part.now in
    let step : IsStep c.args.checking.settings c.args.checking.schema.now c.args.checking.environment.now (held_view c.deref-in-down.result.now) part next.number (held_view next.gained.items) next.part.now = rw c.in-Some.is at c.in_ok-found.ensures.step in
    let less = part_is_smaller part next.number next.part.now step.here in
    rw c.in_ok-below.ensures.part (omega (arith, c.in_ok-further.ensures.below.smaller, less))

pub down-preserved : goal.down-preserved
down-preserved c =
    let next = c.in-Some.next in
    let further = c.in_ok-further.further in
    let held = held_view further.held.items in
    let gained = held_view next.gained.items in
    let step : IsStep c.args.checking.settings c.args.checking.schema.now c.args.checking.environment.now (held_view c.deref-in-down.result.now) further.part.now next.number gained next.part.now = rw c.in-Some.is at c.in_ok-found.ensures.step in
    let none : IsTypingOf c.args.checking.settings c.args.checking.schema.now c.args.checking.environment.now (held_view c.deref-in-down.result.now ++ gained) next.part.now None = rw c.in-Some.is at c.in_ok-found.ensures.untyped in
    let here = subst (λ (x : Capabilities). IsStep c.args.checking.settings c.args.checking.schema.now c.args.checking.environment.now x further.part.now next.number gained next.part.now) (ap held_view c.deref-in-down.ensures.value) step in
    let leads = c.in_ok-further.ensures.below.leads c.args.condition.now c.down.invariant.leads in
    record {
      leads = rw (c.in_ok-below.ensures.path, c.in_ok-below.ensures.held, c.in_ok-below.ensures.part) (leads_on c.args.checking.settings c.args.checking.schema.now c.args.checking.environment.now further.path.items [] held c.args.condition.now further.part.now next.part.now next.number gained leads here);
      untyped = rw (c.in_ok-below.ensures.held, c.in_ok-below.ensures.part) (subst (λ (x : Capabilities). IsTypingOf c.args.checking.settings c.args.checking.schema.now c.args.checking.environment.now (x ++ gained) next.part.now None) (ap held_view c.deref-in-down.ensures.value) none);
    }
