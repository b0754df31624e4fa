use Rattle.cedar_schema_types.proofs.Orders.{ascending}
use Rattle.cedar_schema_types.proofs.record_type.RecordType.from_ascending.Goals as goal

pub invariant_of-result : goal.invariant_of-result
invariant_of-result c = ascending c.args.attributes.items c.requires (rw c.deref.ensures.value at c.order_all.ensures)
