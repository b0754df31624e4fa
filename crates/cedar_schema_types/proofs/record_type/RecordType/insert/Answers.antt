use Rattle.cedar_schema_types.proofs.Inserted.{still_up}
use Rattle.cedar_schema_types.proofs.Orders.{names_ascend}
use Rattle.cedar_schema_types.proofs.record_type.RecordType.insert.Goals as goal

pub put-requires : goal.put-requires
put-requires c = names_ascend _ c.self.invariant

pub invariant_of-self : goal.invariant_of-self
invariant_of-self c = still_up c.put.result _ _ _ c.self.inside.attributes.items c.put.new.attributes.items c.put.ensures.added c.put.ensures.refused c.order.ensures c.self.invariant
