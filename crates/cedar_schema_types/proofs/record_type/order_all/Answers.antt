use Rattle.cedar_schema_types.proofs.Orders.{all_none, all_next}
use Rattle.cedar_schema_types.proofs.record_type.order_all.Goals as goal

pub loop-attribute-init : goal.loop-attribute-init
loop-attribute-init c = all_none

pub loop-attribute-preserved : goal.loop-attribute-preserved
loop-attribute-preserved c = all_next c.args.attributes.now c.loop-attribute.attribute-index c.attribute-item.result c.loop-attribute-test.true c.attribute-item.is c.loop-attribute.invariant c.order.ensures
