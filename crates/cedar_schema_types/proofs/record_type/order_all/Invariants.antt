use Rattle.std.proofs.Common.{take}
use Rattle.cedar_schema_types.specs.TypeKind.{attributes_of}
use Rattle.cedar_schema_types.specs.Ordered.{AllAscend}
use Rattle.cedar_schema_types.proofs.record_type.order_all.Given as goal

abbrev pub invariant-loop-attribute : goal.invariant-loop-attribute
invariant-loop-attribute l = AllAscend (attributes_of (take l.attribute-index l.attributes))
