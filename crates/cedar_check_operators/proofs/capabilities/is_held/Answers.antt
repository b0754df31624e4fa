use Rattle.std.proofs.Common.{Bool, ap, sym, ◌∙◌, drop, ◌+◌}
use Rattle.std.specs.Prelude.{◌||◌}
use Rattle.cedar_check_spec.specs.Private.Checking.{is_held}
use Rattle.cedar_check_operators.specs.View.{capability_view, held_view}
use Rattle.cedar_check_operators.proofs.Held.{held_step}
use Rattle.cedar_check_operators.proofs.capabilities.is_held.Goals as goal

pub returns-then-same_capability : goal.returns-then-same_capability
returns-then-same_capability c =
    let x = capability_view c.args.wanted in
    let rest : Bool = is_held x (held_view (drop (c.loop-capability.capability-index + 1) c.args.held.now)) in
    sym (sym c.loop-capability.invariant ∙ held_step x c.args.held.now c.loop-capability.capability-index c.capability-item.result c.loop-capability-test.true c.capability-item.is
    ∙ ap (λ b. b || rest) (sym c.same_capability.ensures ∙ c.if-same_capability.true))

pub loop-capability-preserved : goal.loop-capability-preserved
loop-capability-preserved c =
    let x = capability_view c.args.wanted in
    let rest : Bool = is_held x (held_view (drop (c.loop-capability.capability-index + 1) c.args.held.now)) in
    sym (held_step x c.args.held.now c.loop-capability.capability-index c.capability-item.result c.loop-capability-test.true c.capability-item.is
    ∙ ap (λ b. b || rest) (sym c.same_capability.ensures ∙ c.if-same_capability.false)) ∙ c.loop-capability.invariant
