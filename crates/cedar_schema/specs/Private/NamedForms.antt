-- Which entity types a form names.
use Rattle.std.specs.Prelude.{ℕ, List, Contains}
use Rattle.cedar_schema_json.specs.Forms.{FormTree, no_form, boolean_form, long_form, string_form, extension_form, entity_form, set_form, record_form, common_form, FormRows, no_form_rows, form_row}

-- each entity type that a form names is one of these
abbrev mutual
  pub FormNames : List (List ℕ) → FormTree → Type 0
  FormNames names no_form = Unit {0}
  FormNames names boolean_form = Unit {0}
  FormNames names long_form = Unit {0}
  FormNames names string_form = Unit {0}
  FormNames names (extension_form t) = Unit {0}
  FormNames names (entity_form n) = Contains names n
  FormNames names (set_form f) = FormNames names f
  FormNames names (record_form rs) = RowsName names rs
  FormNames names (common_form k) = Unit {0}

  pub RowsName : List (List ℕ) → FormRows → Type 0
  RowsName names no_form_rows = Unit {0}
  RowsName names (form_row k r f rs) = FormNames names f × RowsName names rs
