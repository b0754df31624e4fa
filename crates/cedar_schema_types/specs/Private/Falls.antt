-- What is inside a record type nests less deep than the type, as its model requires.
use Rattle.std.specs.Prelude.{◌≤◌, ◌+◌, ℕ, List, [], ◌∷◌}
use Rattle.std.proofs.Common.{arith}
use denote.Param.Weighed.{most, w_this}
use Rattle.cedar_schema_types.specs.Private.Weight.{weight, attributes_weight}
use Rattle.cedar_schema_types.specs.declared.attribute.Attribute.{Attribute}
use Rattle.cedar_schema_types.specs.declared.record_type.RecordType.TheDeep.{deep-Attribute}
use Rattle.cedar_schema_types.specs.TypeKind.{attributes_of}

most_attributes : (size : Attribute → ℕ) → ((a : Attribute) → size a ≤ weight a.ty + 4) → (v : List Attribute) → most size v ≤ attributes_weight (attributes_of v) + 2
most_attributes size low [] = omega arith
most_attributes size low (a ∷ v) = omega (arith, most_attributes size low v, low a)

pub deep_attributes : (v : List Attribute) → most ((w_this).weight Attribute deep-Attribute) v ≤ attributes_weight (attributes_of v) + 2
deep_attributes = most_attributes ((w_this).weight Attribute deep-Attribute) (λ a. omega arith)
