-- The form that a value of the code is.
use Rattle.std.specs.Prelude.{ℕ, Bool, List, [], ◌∷◌, string_bytes}
use Rattle.cedar_schema_json.specs.declared.form.Form.{Form}
use Rattle.cedar_schema_json.specs.declared.form.FormField.{FormField}
use Rattle.cedar_schema_json.specs.declared.form.Form.TheFolds.{fold-Form}
use Rattle.cedar_schema_json.specs.declared.form.Form.TheOpen.{Form-F, FormField-F}
use Rattle.cedar_schema_json.specs.Forms.{FormTree, boolean_form, long_form, string_form, extension_form, entity_form, set_form, record_form, common_form, FormRows, no_form_rows, form_row}

-- An attribute as it is written: its name, whether it is required, and its form (Cedar documentation, JSON schema format:
-- Record).
pub record FieldTree : Type 0 where
  pub name : List ℕ
  pub required : Bool
  pub form : FormTree

-- The attributes of a list, in its order (own).
abbrev pub fields_of : List FieldTree → FormRows
fields_of [] = no_form_rows
fields_of (a ∷ rest) = form_row a.name a.required a.form (fields_of rest)

-- The form of one level of the code, with each form inside it already seen as such (own).
abbrev pub form_step : Form-F FormTree FieldTree → FormTree
form_step Form-F.Boolean = boolean_form
form_step Form-F.Long = long_form
form_step Form-F.Text = string_form
form_step (Form-F.Extension t) = extension_form t
form_step (Form-F.Entity n) = entity_form n
form_step (Form-F.Set b) = set_form b.value
form_step (Form-F.Record v) = record_form (fields_of v.items)
form_step (Form-F.Common n) = common_form n

-- The attribute of one level of the code, with the form inside it already seen as such (own).
abbrev pub field_step : FormField-F FormTree FieldTree → FieldTree
field_step a = record { name = string_bytes a.name; required = a.required; form = a.form }

-- The form that a value of the code is (own).
abbrev pub form_of : Form → FormTree
form_of = fold-Form FormTree FieldTree form_step field_step
