use Rattle.std.proofs.Common.{◌<◌, drop, length, arith, ◌∙◌, drop_of_length-le}
use Rattle.std.proofs.lemmas.Result.{err_from_is_err_and}
use Rattle.cedar_schema_json.specs.FormView.{form_of}
use Rattle.cedar_schema_json.specs.TableView.{table_of}
use Rattle.cedar_schema_json.specs.Expansion.{common_type, cycle_faults}
use Rattle.cedar_schema_json.proofs.ExpandLemmas.{most_at, name_less, own_form_here, attribute_made, attribute_refused, made_all, rows_clean}
use Rattle.cedar_schema_json.proofs.form.expansion.+expand.Goals as goal

pub expand_fields-expand_field-requires : goal.expand_fields-expand_field-requires
expand_fields-expand_field-requires t c =
    let n = c.len-i-end.ensures in
    let v = c.args.fields.now.ok.0 in
    let p = own_form_here c.args.fields.now.items c.loop-i.i c.index.result.now (omega arith) c.index.ensures in
    (omega (arith, p, c.decreases), c.requires)

pub expand_fields-returns-in_err-attribute : goal.expand_fields-returns-in_err-attribute
expand_fields-returns-in_err-attribute t c =
    let n = c.len-i-end.ensures in
    let v = c.args.fields.now.ok.0 in
    let here : c.loop-i.i < length c.args.fields.now.items = omega arith in
    let p = err_from_is_err_and c.from_residual.result c.from_residual.ensures.1 in
    rw (p.1, p.2) (attribute_refused (cycle_faults (table_of c.args.table.forms.now) c.args.names) c.args.fields.now.items c.loop-i.i c.index.result.now _ _ here c.index.ensures c.loop-i.invariant.faults c.in_err-attribute.ensures)

pub expand_fields-loop-i-preserved : goal.expand_fields-loop-i-preserved
expand_fields-loop-i-preserved t c =
    let n = c.len-i-end.ensures in
    let v = c.args.fields.now.ok.0 in
    let here : c.loop-i.i < length c.args.fields.now.items = omega arith in
    let T = table_of c.args.table.forms.now in
    record {
      types = attribute_made (common_type T c.args.names) c.args.fields.now.items c.loop-i.i c.index.result.now c.in_ok-attribute.attribute c.loop-i.attributes _ _ here c.index.ensures (c.in_ok-attribute.ensures.1, c.in_ok-attribute.ensures.2, c.in_ok-attribute.ensures.3) c.in_ok-insert.ensures.added c.loop-i.invariant.types;
      faults = c.loop-i.invariant.faults ∙ rows_clean (cycle_faults T c.args.names) c.args.fields.now.items c.loop-i.i c.index.result.now here c.index.ensures c.in_ok-attribute.ensures.0;
    }

pub expand_fields-returns : goal.expand_fields-returns
expand_fields-returns t c =
    let n = c.len-i-end.ensures in
    let v = c.args.fields.now.ok.0 in
    made_all (common_type (table_of c.args.table.forms.now) c.args.names) (cycle_faults (table_of c.args.table.forms.now) c.args.names) (drop c.loop-i.i c.args.fields.now.items) c.args.fields.now.items c.loop-i.attributes (drop_of_length-le c.args.fields.now.items {i = c.loop-i.i} (omega arith)) c.loop-i.invariant.types c.loop-i.invariant.faults

pub expand_common-expand-requires : goal.expand_common-expand-requires
expand_common-expand-requires t c =
    let b = c.in-Form.ensures in
    let p = name_less c.in-Form.left c.args.names _ _ b.fewer (most_at (table_of c.args.table.forms.now) b.at (form_of c.in-Form.form.now) b.found) in
    (omega (arith, p, c.decreases), c.requires)
