-- The attribute that a value of the code is.
use Rattle.std.specs.Prelude.{List, map}
use Rattle.cedar_schema_json.specs.declared.form.FormField.{FormField}
use Rattle.cedar_schema_json.specs.declared.form.Form.TheFolds.{fold-FormField}
use Rattle.cedar_schema_json.specs.Forms.{FormTree, FormRows}
use Rattle.cedar_schema_json.specs.FormView.{FieldTree, fields_of, form_step, field_step}

abbrev pub field_of : FormField → FieldTree
field_of = fold-FormField FormTree FieldTree form_step field_step

abbrev pub fields_view : List FormField → FormRows
fields_view xs = fields_of (map field_of xs)
