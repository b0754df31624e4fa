use Rattle.cedar_schema_types.proofs.Orders.{names_ascend}
use Rattle.cedar_schema_types.proofs.record_type.RecordType.attributes.Goals as goal

pub returns-clause-ascending : goal.returns-clause-ascending
returns-clause-ascending c = rw c.deref.ensures.value (names_ascend _ c.self.invariant)
