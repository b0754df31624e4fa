use Rattle.std.proofs.Common.{◌-◌, ◌≤◌, length}
use Rattle.cedar_conform_values.proofs.names.Names.place.Given as goal

abbrev pub invariant-halves : goal.invariant-halves
invariant-halves l = (l.low ≤ l.high) × (l.high ≤ length l.self-inside.names.items)

abbrev pub decreases-halves : goal.decreases-halves
decreases-halves l = l.high - l.low
