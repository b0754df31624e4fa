-- Forms with their common types expanded: nodes, height, and the type (Cedar documentation, JSON schema format: common types).
use Rattle.std.specs.Prelude.{◌&&◌, nat_le, length, ◌+◌, ℕ, zero, suc, max, Bool, List, [], ◌∷◌, ◌++◌, Option, Some, None, option_map, option_and_then, unwrap_or, if◌then◌else◌}
use Rattle.cedar_schema_json.specs.declared.schema_fault.SchemaFault.{SchemaFault}
use Rattle.cedar_schema_json.specs.declared.schema_fault.SchemaFault.TheVariants.{UnknownType, CommonCycle, TooLarge}
use Rattle.std.specs.List.{slice_get}
use Rattle.cedar_schema_types.specs.declared.truth.Truth.TheVariants.{Any}
use Rattle.cedar_schema_types.specs.Types.{TypeTree, boolean, long, string, entity, set, record_of, extension, Attributes, no_attributes}
use Rattle.cedar_schema_types.specs.Ordered.{with_attribute}
use Rattle.cedar_schema_json.specs.Forms.{FormTree, no_form, boolean_form, long_form, string_form, extension_form, entity_form, set_form, record_form, common_form, FormRows, no_form_rows, form_row}

-- The common types, under their places, as they are written (Cedar documentation, JSON schema format: common types).
abbrev pub Table : Type 0
Table = List FormTree

-- The size of a type: how many nodes it has, and how many are on its longest path down (own).
pub record Size : Type 0 where
  pub nodes : ℕ
  pub height : ℕ

-- ---- of one form, where `names` says what a common type has

-- The size of a form: each type is one node, and an attribute adds only its type. A set or a record is one higher than what it
-- holds (own).
abbrev mutual
  pub form_size : (ℕ → Size) → FormTree → Size
  form_size names (set_form f) = record { nodes = suc (form_size names f).nodes; height = suc (form_size names f).height }
  form_size names (record_form rs) = record { nodes = suc (rows_size names rs).nodes; height = suc (rows_size names rs).height }
  form_size names (common_form n) = names n
  form_size names _ = record { nodes = 1; height = 1 }

  -- The size of the types of all attributes: the sum of their nodes, and the greatest height (own).
  pub rows_size : (ℕ → Size) → FormRows → Size
  rows_size names no_form_rows = record { nodes = 0; height = 0 }
  rows_size names (form_row k r f rs) = record { nodes = (form_size names f).nodes + (rows_size names rs).nodes; height = max (form_size names f).height (rows_size names rs).height }

-- One more attribute, where both its type and the attributes before it are there (own).
abbrev pub with_row : List ℕ → Bool → Option TypeTree → Option Attributes → Option Attributes
with_row k r (Some t) (Some before) = Some (with_attribute k r t before)
with_row k r _ _ = None

-- The type of a form, none where a part of it is not a type. A record has its attributes in order (Cedar documentation, JSON
-- schema format: attribute types).
abbrev mutual
  pub form_type : (ℕ → Option TypeTree) → FormTree → Option TypeTree
  form_type names no_form = None
  form_type names boolean_form = Some (boolean Any)
  form_type names long_form = Some long
  form_type names string_form = Some string
  form_type names (extension_form t) = Some (extension t)
  form_type names (entity_form n) = Some (entity n)
  form_type names (set_form f) = option_map set (form_type names f)
  form_type names (record_form rs) = option_map record_of (rows_type names (Some no_attributes) rs)
  form_type names (common_form n) = names n

  -- The attributes of these rows, added to those before them (Cedar documentation, JSON schema format: Record).
  pub rows_type : (ℕ → Option TypeTree) → Option Attributes → FormRows → Option Attributes
  rows_type names before no_form_rows = before
  rows_type names before (form_row k r f rs) = rows_type names (with_row k r (form_type names f) before) rs

-- The faults of the common types that a form names, where `names` says those of each (Cedar documentation, JSON schema
-- format: common types).
abbrev mutual
  pub form_faults : (ℕ → List SchemaFault) → FormTree → List SchemaFault
  form_faults names (set_form f) = form_faults names f
  form_faults names (record_form rs) = rows_faults names rs
  form_faults names (common_form n) = names n
  form_faults names _ = []

  -- The faults of the common types that the types of all attributes name (Cedar documentation, JSON schema format: common
  -- types).
  pub rows_faults : (ℕ → List SchemaFault) → FormRows → List SchemaFault
  rows_faults names no_form_rows = []
  rows_faults names (form_row k r f rs) = form_faults names f ++ rows_faults names rs

-- ---- of a common type, where at most n names are followed in a chain

-- The size of a common type. A common type that is not there has the size of a form that is not a type (own).
unfoldable pub common_size : Table → ℕ → ℕ → Size
common_size t zero k = record { nodes = 1; height = 1 }
common_size t (suc n) k = form_size (common_size t n) (unwrap_or (slice_get t k) no_form)

-- The type of a common type, none where its names lead on without end (Cedar documentation, JSON schema format: common
-- types).
unfoldable pub common_type : Table → ℕ → ℕ → Option TypeTree
common_type t zero k = None
common_type t (suc n) k = option_and_then (form_type (common_type t n)) (slice_get t k)

-- The faults of a common type: without a form it is not declared, 303, and one more name than may be followed is a cycle, 304
-- (Cedar documentation, JSON schema format: common types; own).
unfoldable pub cycle_faults : Table → ℕ → ℕ → List SchemaFault
cycle_faults t zero k = CommonCycle ∷ []
cycle_faults t (suc n) k = unwrap_or (option_map (form_faults (cycle_faults t n)) (slice_get t k)) (UnknownType ∷ [])

-- The size of a form with its common types expanded (own).
abbrev pub size : Table → ℕ → FormTree → Size
size t n = form_size (common_size t n)

-- What expanding gives: a type, unless a part has none, and the faults that are there (own).
pub record Expanded : Type 0 where
  pub ty : Option TypeTree
  pub faults : List SchemaFault

-- The limits: 10,000 nodes, and a height of 100 (own).
abbrev pub limit_faults : Table → FormTree → List SchemaFault
limit_faults t f = if nat_le (size t (length t) f).nodes 10000 && nat_le (size t (length t) f).height 100 then [] else TooLarge ∷ []

-- What a form gives as a type, with at most as many names in a chain as there are common types (own).
unfoldable pub typed : Table → FormTree → Expanded
typed t f = record { ty = form_type (common_type t (length t)) f; faults = limit_faults t f ++ form_faults (cycle_faults t (length t)) f }
