use Rattle.std.proofs.Common.{◌≤◌, ◌-◌, length}
use Rattle.cedar_machine_stack.proofs.stack.make_places.Given as goal

abbrev pub invariant-places : goal.invariant-places
invariant-places l = l.count ≤ l.places.capacity

abbrev pub decreases-places : goal.decreases-places
decreases-places l = l.count - length l.places.items
