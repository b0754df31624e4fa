-- Enumerated entity types: the ids that an entry lists (Cedar RFC 53).
use Rattle.std.specs.Prelude.{ℕ, ◌==◌, ◌||◌, not, length, codes, is_some, List, [], ◌∷◌, ◌++◌, Option, Some, None, option_map, unwrap_or}
use Rattle.serde_json.specs.Data.{Data}
use Rattle.serde_json.specs.Find.{get, as_array, as_str}
use Rattle.cedar_schema_json.specs.declared.schema_fault.SchemaFault.{SchemaFault}
use Rattle.cedar_schema_json.specs.declared.schema_fault.SchemaFault.TheVariants.{Shape}
use Rattle.cedar_schema_json.specs.Lists.{ListRead, each_read, set_onto}
use Rattle.cedar_schema_json.specs.Naming.{fault_if}

-- The id that a string is. A value that is not a string is 302 (Cedar RFC 53).
abbrev pub some_id : Option (List ℕ) → ListRead (List ℕ)
some_id None = record { items = []; faults = Shape ∷ [] }
some_id (Some id) = record { items = id ∷ []; faults = [] }

-- The id that an item of a list writes (Cedar RFC 53).
abbrev pub id_read : Data → ListRead (List ℕ)
id_read d = some_id (as_str d)

-- The ids that a list writes. A value that is not a list is 302 (Cedar RFC 53).
abbrev pub ids_in : Data → ListRead (List ℕ)
ids_in list = unwrap_or (option_map (each_read id_read) (as_array list)) (record { items = []; faults = Shape ∷ [] })

-- There has to be an id, and no id may come twice: 302 (Cedar RFC 53; own).
abbrev pub count_faults : List (List ℕ) → List SchemaFault
count_faults ids = fault_if (length ids == 0 || not (length (set_onto [] ids) == length ids)) Shape

-- An enumerated type has neither parents nor attributes: 302 (Cedar RFC 53).
abbrev pub alone_faults : Data → List SchemaFault
alone_faults d = fault_if (is_some (get (codes "memberOfTypes") d) || is_some (get (codes "shape") d)) Shape

-- The faults of an entry with this list at `enum` (Cedar RFC 53).
abbrev pub listed_faults : Data → Data → List SchemaFault
listed_faults d list = (ids_in list).faults ++ (count_faults (ids_in list).items ++ alone_faults d)

-- The faults of the enumeration of an entry, if it is one of an enumerated type (Cedar RFC 53).
unfoldable pub enumeration_faults : Data → List SchemaFault
enumeration_faults d = unwrap_or (option_map (listed_faults d) (get (codes "enum") d)) []

-- The ids of an entry, in ascending order, if it is one of an enumerated type (Cedar RFC 53).
unfoldable pub enumeration_of : Data → Option (List (List ℕ))
enumeration_of d = option_map (λ list. set_onto [] (ids_in list).items) (get (codes "enum") d)
