-- Lists of a schema's JSON, and of entity types (Cedar documentation, JSON schema format).
use Rattle.std.specs.Prelude.{ℕ, List, [], ◌∷◌, ◌++◌, Option, Some, None, option_map, unwrap_or}
use Rattle.std.specs.BTreeSet.{insert_key}
use Rattle.serde_json.specs.Data.{Data, Items, no_items, item}
use Rattle.serde_json.specs.Find.{as_array, as_str}
use Rattle.cedar_value.specs.Order.{text_cmp}
use Rattle.cedar_schema_json.specs.declared.schema_fault.SchemaFault.{SchemaFault}
use Rattle.cedar_schema_json.specs.declared.schema_fault.SchemaFault.TheVariants.{Shape}
use Rattle.cedar_schema_json.specs.Naming.{resolved, name_faults}
use Rattle.cedar_schema_json.specs.Reading.{Scope}

-- The items that a list writes, and the faults that are there (own).
pub record ListRead (A : Type 0) : Type 0 where
  pub items : List A
  pub faults : List SchemaFault

-- What the items of a list write, one after another (own).
unfoldable pub each_read : {A : Type 0} → (Data → ListRead A) → Items → ListRead A
each_read f no_items = record { items = []; faults = [] }
each_read f (item d ds) = record { items = (f d).items ++ (each_read f ds).items; faults = (f d).faults ++ (each_read f ds).faults }

-- The list at a key: `missing` is the fault of a list that is not there, and a value that is not a list is 302 (Cedar
-- documentation, JSON schema format; own).
abbrev pub list_at : {A : Type 0} → (Data → ListRead A) → List SchemaFault → Option Data → ListRead A
list_at f missing None = record { items = []; faults = missing }
list_at f missing (Some d) = unwrap_or (option_map (each_read f) (as_array d)) (record { items = []; faults = Shape ∷ [] })

-- The declared name that a string denotes. A value that is not a string is 302, an undeclared name 303 (Cedar documentation,
-- JSON schema format: namespaces).
abbrev pub some_name : List (List ℕ) → List ℕ → Option (List ℕ) → ListRead (List ℕ)
some_name declared namespace None = record { items = []; faults = Shape ∷ [] }
some_name declared namespace (Some s) = record { items = unwrap_or (option_map (λ n. n.0 ∷ []) (resolved declared namespace s)) []; faults = name_faults declared namespace s }

-- The declared name that an item of a list denotes (Cedar documentation, JSON schema format: namespaces).
abbrev pub name_read : List (List ℕ) → List ℕ → Data → ListRead (List ℕ)
name_read declared namespace d = some_name declared namespace (as_str d)

-- The declared entity types of a list (Cedar documentation, JSON schema format: memberOfTypes, principalTypes, resourceTypes).
abbrev pub names_at : Scope → List SchemaFault → Option Data → ListRead (List ℕ)
names_at sc = list_at (name_read sc.entities sc.namespace)

-- The names, put into a list in ascending order, each once (own).
abbrev pub set_onto : List (List ℕ) → List (List ℕ) → List (List ℕ)
set_onto done [] = done
set_onto done (n ∷ names) = set_onto (insert_key text_cmp done n) names
