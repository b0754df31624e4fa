-- Entries in the plain form.
use Rattle.std.specs.Prelude.{◌≡◌, ℕ, true, List, [], Some, IsSome}
use Rattle.serde_json.specs.Data.{Data, object, no_members}
use Rattle.serde_json.specs.Find.{as_object}
use Rattle.cedar_conform_values.specs.Objects.{has_only}
use Rattle.cedar_conform_values.specs.Values.{value_read}
use Rattle.cedar_conform_entities.specs.Entries.{attributes_in, is_entry_key, tags_in}
use Rattle.cedar_conform_entities.specs.Denotes.{DenotesEntity}
use Rattle.base_json.specs.LentItems.{item_of}
use Rattle.base_json.specs.Lists.{IsNext}
use Rattle.cedar_schema_spec.specs.SchemaTree.{SchemaTree}
use Rattle.cedar_schema_types.specs.Types.{TypeTree}
use Rattle.cedar_value.specs.World.{EntityTree}
use Rattle.cedar_value.specs.Datum.{Datum, record_of, fields_of}

-- the object has no other keys than an entry's, attributes that are an object, and no tags
pub record IsPlain (d : Data) : Type 0 where
  pub keys : has_only is_entry_key d ≡ true
  pub attributed : IsSome (as_object (attributes_in d))
  pub untagged : tags_in d ≡ object no_members

-- the fields are read without fault for the shape
abbrev pub AreFields : TypeTree → Data → List (List ℕ × Datum) → Type 0
AreFields shape d fields = ((value_read shape d).faults ≡ []) × (record_of (fields_of fields) ≡ (value_read shape d).value)

-- the fields are the attributes of an entry
abbrev pub AreAttributes : TypeTree → Data → List (List ℕ × Datum) → Type 0
AreAttributes shape d = AreFields shape (attributes_in d)

-- the text is an item of a list that denotes the entity
abbrev pub DenotesItem : SchemaTree → List ℕ → EntityTree → Type 0
DenotesItem s text e = (d : Data) × (item_of text ≡ Some d) × DenotesEntity s d e

-- the next item of the list denotes the entity, and the others come after so many bytes
abbrev pub DenotesFirst : SchemaTree → List ℕ → EntityTree → ℕ → Type 0
DenotesFirst s bytes e passed = (d : Data) × IsNext d passed bytes × DenotesEntity s d e
