use Rattle.std.proofs.Common.{length}
use Rattle.cedar_value.specs.Datum.{fields_of}
use Rattle.cedar_value.specs.Values.{HoldValues}
use Rattle.cedar_value.proofs.value_record.hold_values.Given as goal

abbrev pub invariant-walk : goal.invariant-walk
invariant-walk l = HoldValues (fields_of l.left) → HoldValues (fields_of l.fn.pairs)

abbrev pub decreases-walk : goal.decreases-walk
decreases-walk l = length l.left
