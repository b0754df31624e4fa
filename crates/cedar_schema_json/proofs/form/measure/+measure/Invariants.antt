use Rattle.std.proofs.Common.{◌≡◌, ◌+◌, ◌*◌, ◌≤◌, max, drop}
use Rattle.cedar_schema_json.specs.FormView.{form_of}
use Rattle.cedar_schema_json.specs.Private.FieldView.{fields_view}
use Rattle.cedar_schema_json.specs.TableView.{table_of}
use Rattle.cedar_schema_json.specs.Expansion.{rows_size, rows_faults, common_size, cycle_faults}
use Rattle.cedar_schema_json.proofs.ExpandLemmas.{own, own_rows, most}
use Rattle.cedar_schema_json.proofs.form.measure.+measure.Given as goal

abbrev pub decreases-measure : goal.decreases-measure
decreases-measure l = 2 * (l.names * (most (table_of l.table.forms.now) + 1) + own (form_of l.form.now))

abbrev pub decreases-measure_common : goal.decreases-measure_common
decreases-measure_common l = 2 * (l.names * (most (table_of l.table.forms.now) + 1)) + 1

abbrev pub decreases-measure_fields : goal.decreases-measure_fields
decreases-measure_fields l = 2 * (l.names * (most (table_of l.table.forms.now) + 1) + own_rows (fields_view l.fields.now.items)) + 1

abbrev pub invariant-measure_fields-loop-i : goal.invariant-measure_fields-loop-i
invariant-measure_fields-loop-i l =
    let t = table_of l.table.forms.now in
    let all = fields_view l.fields.items in
    let rest = fields_view (drop l.i l.fields.items) in
    let size = rows_size (common_size t l.names) in
    record {
      counted : l.left + (size all).nodes ≡ l.fn.room + (size rest).nodes;
      low : (size all).height ≤ max l.levels (size rest).height;
      part : (size rest).height ≤ (size all).height;
      clean : rows_faults (cycle_faults t l.names) all ≡ rows_faults (cycle_faults t l.names) rest;
    }
