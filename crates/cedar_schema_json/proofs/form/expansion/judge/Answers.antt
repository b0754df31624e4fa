use Rattle.std.proofs.Common.{length}
use Rattle.std.proofs.lemmas.List.{length-map}
use Rattle.std.proofs.lemmas.Result.{err_from_is_err_and}
use Rattle.cedar_schema_json.specs.FormView.{form_of}
use Rattle.cedar_schema_json.specs.TableView.{table_of}
use Rattle.cedar_schema_json.proofs.ExpandLemmas.{judged_fine, judged_over}
use Rattle.cedar_schema_json.proofs.form.expansion.judge.Goals as goal

pub returns-in_err-measure : goal.returns-in_err-measure
returns-in_err-measure c =
    let p = err_from_is_err_and c.from_residual.result c.from_residual.ensures.1 in
    rw (p.1, p.2) (judged_over (table_of c.args.table.forms.now) (form_of c.args.form.now) (length c.args.table.forms.now) _ (length-map c.args.table.forms.now form_of) c.in_err-measure.ensures)

pub returns : goal.returns
returns c =
    judged_fine (table_of c.args.table.forms.now) (form_of c.args.form.now) (length c.args.table.forms.now) c.in_ok-measure.field-0 (length-map c.args.table.forms.now form_of) c.in_ok-measure.ensures
