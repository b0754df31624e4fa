use Rattle.std.proofs.Common.{◌≡◌, ◌++◌, drop}
use Rattle.cedar_check_spec.specs.Private.Checking.{common}
use Rattle.cedar_check_operators.specs.View.{held_view}
use Rattle.cedar_check_operators.proofs.capabilities.common.Given as goal

abbrev pub invariant-loop-capability : goal.invariant-loop-capability
invariant-loop-capability l = held_view l.both.items ++ common (held_view (drop l.capability-index l.one)) (held_view l.two) ≡ common (held_view l.one) (held_view l.two)
