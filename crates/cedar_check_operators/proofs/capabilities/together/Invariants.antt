use Rattle.std.proofs.Common.{◌≡◌, ◌++◌, take}
use Rattle.cedar_check_operators.proofs.capabilities.together.Given as goal

abbrev pub invariant-loop-capability : goal.invariant-loop-capability
invariant-loop-capability l = l.all.items ≡ l.fn.one.items ++ take l.capability-index l.fn.two.items
