-- What is inside a kind nests less deep than its type, as the model of a type requires.
use Rattle.std.specs.Prelude.{◌≤◌, max}
use Rattle.std.proofs.Common.{arith}
use Rattle.cedar_schema_types.specs.Private.Weight.{weight}
use Rattle.cedar_schema_types.specs.declared.types.TypeKind.{TypeKind}
use Rattle.cedar_schema_types.specs.declared.types.TypeKind.TheVariants.{Boolean, Long, String, Entity, Set, Record, Extension}
use Rattle.cedar_schema_types.specs.declared.record_type.RecordType.TheDeep.{deep-TypeKind}
use Rattle.cedar_schema_types.specs.TypeKind.{type_of}

pub deep_le-weight : (k : TypeKind) → max (deep-TypeKind k) 0 ≤ weight (type_of k)
deep_le-weight (Boolean b) = omega arith
deep_le-weight Long = omega arith
deep_le-weight String = omega arith
deep_le-weight (Entity n) = omega arith
deep_le-weight (Set b) = omega arith
deep_le-weight (Record r) = omega arith
deep_le-weight (Extension t) = omega arith
