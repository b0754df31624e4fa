use Rattle.std.proofs.Common.{◌≡◌, drop}
use Rattle.cedar_check_spec.specs.Private.Checking.{is_held}
use Rattle.cedar_check_operators.specs.View.{capability_view, held_view}
use Rattle.cedar_check_operators.proofs.capabilities.is_held.Given as goal

abbrev pub invariant-loop-capability : goal.invariant-loop-capability
invariant-loop-capability l = is_held (capability_view l.wanted) (held_view (drop l.capability-index l.held)) ≡ is_held (capability_view l.wanted) (held_view l.held)
