-- How deep a type nests, as its model measures it.
use Rattle.std.specs.Prelude.{ℕ, suc, max}
use Rattle.cedar_schema_types.specs.Types.{TypeTree, boolean, long, string, entity, set, record_of, extension, Attributes, no_attributes, attribute}

abbrev mutual
  pub weight : TypeTree → ℕ
  weight (boolean b) = 0
  weight long = 0
  weight string = 0
  weight (entity n) = 0
  weight (set t) = suc (suc (weight t))
  weight (record_of a) = suc (suc (suc (attributes_weight a)))
  weight (extension t) = 0

  pub attributes_weight : Attributes → ℕ
  attributes_weight no_attributes = 0
  attributes_weight (attribute k r t rest) = max (suc (suc (weight t))) (attributes_weight rest)
