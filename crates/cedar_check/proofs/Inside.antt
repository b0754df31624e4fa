-- What is inside a record type.
use Rattle.std.proofs.Common.{◌≡◌, ℕ, zero, suc, ◌+◌, ◌<◌, ◌≤◌, List, [], ◌∷◌, length, get_or, arith, ap}
use Rattle.cedar_schema_types.specs.TypeKind.{attributes_of}
use Rattle.cedar_schema_types.specs.Private.Weight.{weight, attributes_weight}
use Rattle.cedar_schema_types.specs.declared.attribute.Attribute.{Attribute}

-- the type of an attribute nests less deep than all of them
pub weight_here : (a : List Attribute) (i : ℕ) (x : Attribute) → i < length a → x ≡ get_or a i x → weight x.ty + 2 ≤ attributes_weight (attributes_of a)
weight_here [] i x h e = absurd (omega arith)
weight_here (y ∷ a) zero x h e = let same : weight x.ty ≡ weight y.ty = ap (λ (z : Attribute). weight z.ty) e in omega arith
weight_here (y ∷ a) (suc i) x h e = let inner = weight_here a i x (omega arith) e in omega arith
