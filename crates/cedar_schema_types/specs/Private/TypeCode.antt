-- A type as a tree of numbers, from which it is read back, so that what contracts see may hold types.
use Rattle.std.specs.Prelude.{◌≡◌, zero, suc, refl}
use Rattle.std.proofs.Common.{ap}
use base.Stored.{Gv, gnil, gnum, gcons, Coded}
use denote.Struct.Codes.{code_by, itself}
use Rattle.cedar_ext.specs.Private.ExtensionCode.{extension_type_tree, extension_type_from, extension_type_back}
use Rattle.cedar_value.specs.Private.DatumCode.{bytes_tree, bytes_from, bytes_back, truth_tree, truth_from, truth_back}
use Rattle.cedar_schema_types.specs.declared.truth.Truth.TheVariants.{True, False, Any}
use Rattle.cedar_schema_types.specs.Types.{TypeTree, boolean, long, string, entity, set, record_of, extension, Attributes, no_attributes, attribute}

abbrev mutual
  pub type_tree : TypeTree → Gv
  type_tree (boolean True) = gnum zero
  type_tree (boolean False) = gnum (suc zero)
  type_tree (boolean Any) = gnum (suc (suc zero))
  type_tree long = gnum (suc (suc (suc zero)))
  type_tree string = gnum (suc (suc (suc (suc zero))))
  type_tree (entity n) = gcons (gnum zero) (bytes_tree n)
  type_tree (set t) = gcons (gnum (suc zero)) (type_tree t)
  type_tree (record_of as') = gcons (gnum (suc (suc zero))) (attributes_tree as')
  type_tree (extension e) = gcons (gnum (suc (suc (suc zero)))) (extension_type_tree e)

  pub attributes_tree : Attributes → Gv
  attributes_tree no_attributes = gnil
  attributes_tree (attribute k r t rest) = gcons (gcons (gcons (bytes_tree k) (truth_tree r)) (type_tree t)) (attributes_tree rest)

abbrev mutual
  pub type_from : Gv → TypeTree
  type_from gnil = long
  type_from (gnum zero) = boolean True
  type_from (gnum (suc zero)) = boolean False
  type_from (gnum (suc (suc zero))) = boolean Any
  type_from (gnum (suc (suc (suc zero)))) = long
  type_from (gnum (suc (suc (suc (suc n))))) = string
  type_from (gcons gnil t) = long
  type_from (gcons (gcons a b) t) = long
  type_from (gcons (gnum zero) t) = entity (bytes_from t)
  type_from (gcons (gnum (suc zero)) t) = set (type_from t)
  type_from (gcons (gnum (suc (suc zero))) t) = record_of (attributes_from t)
  type_from (gcons (gnum (suc (suc (suc n)))) t) = extension (extension_type_from t)

  pub attributes_from : Gv → Attributes
  attributes_from gnil = no_attributes
  attributes_from (gnum n) = no_attributes
  attributes_from (gcons gnil t) = no_attributes
  attributes_from (gcons (gnum n) t) = no_attributes
  attributes_from (gcons (gcons gnil b) t) = no_attributes
  attributes_from (gcons (gcons (gnum n) b) t) = no_attributes
  attributes_from (gcons (gcons (gcons k r) b) t) = attribute (bytes_from k) (truth_from r) (type_from b) (attributes_from t)

mutual
  pub type_back : (t : TypeTree) → type_from (type_tree t) ≡ t
  type_back (boolean True) = refl
  type_back (boolean False) = refl
  type_back (boolean Any) = refl
  type_back long = refl
  type_back string = refl
  type_back (entity n) = ap entity (bytes_back n)
  type_back (set t) = ap set (type_back t)
  type_back (record_of a) = ap record_of (attributes_back a)
  type_back (extension e) = ap extension (extension_type_back e)

  pub attributes_back : (a : Attributes) → attributes_from (attributes_tree a) ≡ a
  attributes_back no_attributes = refl
  attributes_back (attribute k r t rest) = λ i. attribute (bytes_back k i) (truth_back r i) (type_back t i) (attributes_back rest i)

abbrev pub type_code : Coded TypeTree
type_code = code_by Gv itself type_tree type_from type_back

abbrev pub attributes_code : Coded Attributes
attributes_code = code_by Gv itself attributes_tree attributes_from attributes_back
