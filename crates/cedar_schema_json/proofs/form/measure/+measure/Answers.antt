use Rattle.std.proofs.Common.{◌<◌, length, arith, ◌∙◌}
use Rattle.std.proofs.lemmas.Result.{err_from_is_err_and}
use Rattle.cedar_schema_json.specs.FormView.{form_of}
use Rattle.cedar_schema_json.specs.Private.FieldView.{fields_view}
use Rattle.cedar_schema_json.specs.TableView.{table_of}
use Rattle.cedar_schema_json.specs.Expansion.{form_size, rows_size, common_size, cycle_faults}
use Rattle.cedar_schema_json.proofs.ExpandLemmas.{most_at, name_less, own_form_here, nodes_here, height_here, over_row, rows_clean, rows_has}
use Rattle.cedar_schema_json.proofs.form.measure.+measure.Goals as goal

pub measure_common-measure-requires : goal.measure_common-measure-requires
measure_common-measure-requires t c =
    let b = c.in-Form.ensures in
    let p = name_less c.in-Form.left c.args.names _ _ b.fewer (most_at (table_of c.args.table.forms.now) b.at (form_of c.in-Form.form.now) b.found) in
    (omega (arith, p, c.decreases), c.requires)

pub measure_fields-measure-requires : goal.measure_fields-measure-requires
measure_fields-measure-requires t c =
    let n = c.len-i-end.ensures in
    let q = c.args.fields.now.ok.0 in
    let p = own_form_here c.args.fields.now.items c.loop-i.i c.index.result.now (omega arith) c.index.ensures in
    (omega (arith, p, c.decreases), c.requires)

pub measure_fields-returns-in_err-left : goal.measure_fields-returns-in_err-left
measure_fields-returns-in_err-left t c =
    let n = c.len-i-end.ensures in
    let v = c.args.fields.now.ok.0 in
    let a = c.args.fields.now.items in
    let i = c.loop-i.i in
    let x = c.index.result.now in
    let here : i < length a = omega arith in
    let T = table_of c.args.table.forms.now in
    let names = common_size T c.args.names in
    let inv = c.loop-i.invariant in
    let p = nodes_here names a i x here c.index.ensures in
    let q = height_here names a i x here c.index.ensures in
    let counted = inv.counted in
    let e = err_from_is_err_and c.from_residual.result c.from_residual.ensures.1 in
    rw (e.1, e.2) (over_row _ c.args.room c.loop-i.left c.args.levels _ _ _ _ (form_size names (form_of x.form)) (rows_size names (fields_view a)) _ _ counted p q inv.part
    (rows_has (cycle_faults T c.args.names) a i x _ _ here c.index.ensures inv.clean) c.in_err-left.ensures)

pub measure_fields-loop-i-preserved : goal.measure_fields-loop-i-preserved
measure_fields-loop-i-preserved t c =
    let n = c.len-i-end.ensures in
    let v = c.args.fields.now.ok.0 in
    let a = c.args.fields.now.items in
    let i = c.loop-i.i in
    let x = c.index.result.now in
    let here : i < length a = omega arith in
    let T = table_of c.args.table.forms.now in
    let p = nodes_here (common_size T c.args.names) a i x here c.index.ensures in
    let q = height_here (common_size T c.args.names) a i x here c.index.ensures in
    let counted = c.loop-i.invariant.counted in
    let low = c.loop-i.invariant.low in
    let part = c.loop-i.invariant.part in
    let made = c.in_ok-left.ensures in
    record {
      counted = omega (arith, p, counted, made.0);
      low = omega (arith, q, low, made.1);
      part = omega (arith, q, part);
      clean = c.loop-i.invariant.clean ∙ rows_clean (cycle_faults T c.args.names) a i x here c.index.ensures made.2;
    }
