-- What is inside a kind nests less deep than its value.
use Rattle.std.specs.Prelude.{◌≤◌, max}
use Rattle.std.proofs.Common.{arith}
use Rattle.cedar_value.specs.Private.Weight.{weight}
use Rattle.cedar_value.specs.declared.value.ValueKind.{ValueKind}
use Rattle.cedar_value.specs.declared.value.ValueKind.TheVariants.{Boolean, Long, String, Uid, Set, Record, Extension}
use Rattle.cedar_value.specs.declared.value.Value.TheDeep.{deep-ValueKind}
use Rattle.cedar_value.specs.ValueKind.{datum_of}

pub deep_le-weight : (k : ValueKind) → max (deep-ValueKind k) 0 ≤ weight (datum_of k)
deep_le-weight (Boolean b) = omega arith
deep_le-weight (Long z) = omega arith
deep_le-weight (String s) = omega arith
deep_le-weight (Uid u) = omega arith
deep_le-weight (Set ds) = omega arith
deep_le-weight (Record ps) = omega arith
deep_le-weight (Extension e) = omega arith
