use Rattle.std.proofs.Common.{arith}
use Rattle.cedar_check.proofs.Inside.{weight_here}
use Rattle.cedar_check.proofs.type_order.+order.Goals as goal

pub order_attributes-order_attribute-requires : goal.order_attributes-order_attribute-requires
order_attributes-order_attribute-requires t c =
    let inner = weight_here c.args.left.now c.loop-place.place c.index-left-place.result (omega arith) c.index-left-place.is in
    (omega (arith, inner, c.decreases), tt)
