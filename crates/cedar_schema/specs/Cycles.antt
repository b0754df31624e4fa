-- Common types that lead back to themselves.
use Rattle.std.specs.Prelude.{◌↔◌, ℕ, List, [], ◌∷◌, ◌++◌, option_map, unwrap_or, Contains}
use Rattle.std.specs.List.{slice_get}
use Rattle.base_reach.specs.Closure.{LeadsTo}
use Rattle.cedar_schema_json.specs.declared.schema_fault.SchemaFault.TheVariants.{CommonCycle}
use Rattle.cedar_schema_json.specs.Forms.{FormTree, no_form, boolean_form, long_form, string_form, extension_form, entity_form, set_form, record_form, common_form, FormRows, no_form_rows, form_row}
use Rattle.cedar_schema_json.specs.Expansion.{Table}
use Rattle.cedar_schema.specs.Each.{each_faults}
use Rattle.cedar_schema.specs.Schemas.{expansion_faults}

-- The places of the common types that a form names (Cedar documentation, JSON schema format: common types).
abbrev mutual
  pub named_in : FormTree → List ℕ
  named_in no_form = []
  named_in boolean_form = []
  named_in long_form = []
  named_in string_form = []
  named_in (extension_form t) = []
  named_in (entity_form n) = []
  named_in (set_form f) = named_in f
  named_in (record_form rs) = named_in_rows rs
  named_in (common_form k) = k ∷ []

  -- The places of the common types that the types of all attributes name (Cedar documentation, JSON schema format: common
  -- types).
  pub named_in_rows : FormRows → List ℕ
  named_in_rows no_form_rows = []
  named_in_rows (form_row k r f rs) = named_in f ++ named_in_rows rs

-- The places of the common types that the common type of a place names, none where there is no such place (Cedar
-- documentation, JSON schema format: common types).
abbrev pub named_by : Table → ℕ → List ℕ
named_by t k = unwrap_or (option_map named_in (slice_get t k)) []

-- Expanding the common types gives 304 exactly where some common type leads to itself by one or more names (own).
abbrev pub CyclesAreFound : Type 0
CyclesAreFound = (t : Table) → Contains (each_faults (expansion_faults t) t) CommonCycle ↔ ((k : ℕ) × LeadsTo (named_by t) k k)
