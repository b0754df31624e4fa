use Rattle.std.proofs.Common.{length}
use Rattle.cedar_value.specs.Datum.{members_of}
use Rattle.cedar_value.specs.Values.{AreValues}
use Rattle.cedar_value.proofs.value_set.are_values.Given as goal

abbrev pub invariant-walk : goal.invariant-walk
invariant-walk l = AreValues (members_of l.left) → AreValues (members_of l.fn.list)

abbrev pub decreases-walk : goal.decreases-walk
decreases-walk l = length l.left
