-- The type that a kind denotes.
use Rattle.std.specs.Prelude.{List, [], ◌∷◌}
use Rattle.cedar_schema_types.specs.Types.{TypeTree, boolean, long, string, entity, set, record_of, extension, Attributes, no_attributes, attribute}
use Rattle.cedar_schema_types.specs.declared.attribute.Attribute.{Attribute}
use Rattle.cedar_schema_types.specs.declared.types.TypeKind.{TypeKind}
use Rattle.cedar_schema_types.specs.declared.types.TypeKind.TheVariants.{Boolean, Long, String, Entity, Set, Record, Extension}

-- The attributes of a list, in its order (own).
abbrev pub attributes_of : List Attribute → Attributes
attributes_of [] = no_attributes
attributes_of (a ∷ rest) = attribute a.name a.required a.ty (attributes_of rest)

-- The type that a kind is the outermost form of (own).
abbrev pub type_of : TypeKind → TypeTree
type_of (Boolean t) = boolean t
type_of Long = long
type_of String = string
type_of (Entity n) = entity n
type_of (Set b) = set b.value
type_of (Record r) = record_of r
type_of (Extension t) = extension t
