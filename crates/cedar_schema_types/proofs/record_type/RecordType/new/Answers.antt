use Rattle.std.specs.List.Sorted.{IsStrictlySortedBy}
use Rattle.cedar_schema_types.specs.Ordered.{Ascends}
use Rattle.cedar_schema_types.proofs.record_type.RecordType.new.Goals as goal

pub invariant_of-result : goal.invariant_of-result
unfolding Ascends IsStrictlySortedBy
invariant_of-result c = rw c.new.ensures.items (tt, tt)
