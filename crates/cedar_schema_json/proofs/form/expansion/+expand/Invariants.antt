use Rattle.std.proofs.Common.{◌≡◌, ◌+◌, ◌*◌, drop, Some}
use Rattle.cedar_schema_types.specs.Types.{no_attributes}
use Rattle.cedar_schema_json.specs.FormView.{form_of}
use Rattle.cedar_schema_json.specs.Private.FieldView.{fields_view}
use Rattle.cedar_schema_json.specs.TableView.{table_of}
use Rattle.cedar_schema_json.specs.Expansion.{rows_type, rows_faults, common_type, cycle_faults}
use Rattle.cedar_schema_json.proofs.ExpandLemmas.{own, own_rows, most}
use Rattle.cedar_schema_json.proofs.form.expansion.+expand.Given as goal

abbrev pub decreases-expand : goal.decreases-expand
decreases-expand l = 3 * (l.names * (most (table_of l.table.forms.now) + 1) + own (form_of l.form.now))

abbrev pub decreases-expand_common : goal.decreases-expand_common
decreases-expand_common l = 3 * (l.names * (most (table_of l.table.forms.now) + 1)) + 1

abbrev pub decreases-expand_fields : goal.decreases-expand_fields
decreases-expand_fields l = 3 * (l.names * (most (table_of l.table.forms.now) + 1) + own_rows (fields_view l.fields.now.items)) + 2

abbrev pub invariant-expand_fields-loop-i : goal.invariant-expand_fields-loop-i
invariant-expand_fields-loop-i l =
    let names = common_type (table_of l.table.forms.now) l.names in
    let faults = cycle_faults (table_of l.table.forms.now) l.names in
    record {
      types : rows_type names (Some l.attributes) (fields_view (drop l.i l.fields.items)) ≡ rows_type names (Some no_attributes) (fields_view l.fields.items);
      faults : rows_faults faults (fields_view l.fields.items) ≡ rows_faults faults (fields_view (drop l.i l.fields.items));
    }

abbrev pub decreases-expand_field : goal.decreases-expand_field
decreases-expand_field l = 3 * (l.names * (most (table_of l.table.forms.now) + 1) + own (form_of l.field.now.form)) + 1
