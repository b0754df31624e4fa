-- How high a type is: the measure of the readers, which go down the type.
use Rattle.std.proofs.Common.{◌≡◌, ◌≤◌, ◌+◌, ℕ, suc, max, List, ◌∷◌, ap, arith}
use Rattle.cedar_schema_types.specs.Types.{TypeTree, boolean, long, string, entity, set, record_of, extension, Attributes, no_attributes, attribute}
use Rattle.cedar_schema_types.specs.TypeKind.{attributes_of}
use Rattle.cedar_schema_types.specs.declared.attribute.Attribute.{Attribute}

abbrev mutual
  pub height : TypeTree → ℕ
  height (boolean b) = 0
  height long = 0
  height string = 0
  height (entity n) = 0
  height (set t) = suc (height t)
  height (record_of a) = suc (attributes_height a)
  height (extension t) = 0

  pub attributes_height : Attributes → ℕ
  attributes_height no_attributes = 0
  attributes_height (attribute k r t rest) = max (height t) (attributes_height rest)

pub height_set : (t u : TypeTree) → set t ≡ u → height t + 1 ≤ height u
height_set t u e = let w = ap height e in omega arith

pub height_record : (a : Attributes) (u : TypeTree) → record_of a ≡ u → attributes_height a + 1 ≤ height u
height_record a u e = let w = ap height e in omega arith

pub height_first : (xs : List Attribute) (x : Attribute) (rest : List Attribute) → xs ≡ x ∷ rest → (height x.ty ≤ attributes_height (attributes_of xs)) × (attributes_height (attributes_of rest) ≤ attributes_height (attributes_of xs))
height_first xs x rest e =
    let w = ap (λ (ys : List Attribute). attributes_height (attributes_of ys)) e in (omega arith, omega arith)
