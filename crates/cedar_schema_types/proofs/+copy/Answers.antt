use Rattle.std.proofs.Common.{arith}
use Rattle.cedar_schema_types.proofs.AttributeJoins.{weight_here}
use Rattle.cedar_schema_types.proofs.+copy.Goals as goal

pub record_type::clone_attributes-try_clone-requires : goal.record_type::clone_attributes-try_clone-requires
record_type::clone_attributes-try_clone-requires t c =
    let p = weight_here c.args.attributes.now c.loop-attribute.attribute-index c.attribute-item.result c.loop-attribute-test.true c.attribute-item.is in
    omega (arith, p, c.decreases)
