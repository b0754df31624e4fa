-- What a type declares at a name.
use Rattle.std.specs.Prelude.{ℕ, List, Option, Some, None, if◌then◌else◌}
use Rattle.std.specs.Str.{bytes_eq}
use Rattle.cedar_schema_types.specs.Types.{TypeTree, record_of, Attributes, no_attributes, attribute}
use Rattle.cedar_schema_types.specs.declared.attribute.Attribute.{Attribute}

-- The attribute of this name, if there is one (Cedar documentation, JSON schema format: Record).
abbrev pub attribute_at : List ℕ → Attributes → Option Attribute
attribute_at k no_attributes = None
attribute_at k (attribute l r t rest) = if bytes_eq l k then Some (record { name = l; ty = t; required = r }) else attribute_at k rest

-- The attribute that a type declares at a name: none where it is not a record type (Cedar documentation, strict validation:
-- attribute access).
abbrev pub attribute_of : List ℕ → TypeTree → Option Attribute
attribute_of k (record_of a) = attribute_at k a
attribute_of k _ = None
