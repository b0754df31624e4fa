use Rattle.std.proofs.Common.{◌≡◌, ◌++◌, take}
use Rattle.cedar_check_operators.proofs.capabilities.extended.Given as goal

abbrev pub invariant-loop-capability : goal.invariant-loop-capability
invariant-loop-capability l = l.all.items ≡ take l.capability-index l.held

abbrev pub invariant-loop-capability-2 : goal.invariant-loop-capability-2
invariant-loop-capability-2 l = l.all.items ≡ l.held ++ take l.capability-index l.gained
