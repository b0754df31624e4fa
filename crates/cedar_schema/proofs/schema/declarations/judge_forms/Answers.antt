use Rattle.std.proofs.Common.{◌≡◌, [], sym, subst, ◌+◌, ◌<◌, drop, length, drop_of_length-le, arith, ap}
use Rattle.std.proofs.lemmas.Result.{err_from_is_err_and}
use Rattle.cedar_schema_json.specs.declared.form.Form.{Form}
use Rattle.cedar_schema_json.specs.Faults.{Told}
use Rattle.cedar_schema_json.specs.FormView.{form_of}
use Rattle.cedar_schema_json.specs.TableView.{table_of}
use Rattle.cedar_schema.specs.Schemas.{expansion_faults}
use Rattle.cedar_schema.proofs.EachLemmas.{faults_more, faults_refused, faults_end}
use Rattle.cedar_schema_json.proofs.Lookups.{drop_here}
use Rattle.cedar_schema.proofs.schema.declarations.judge_forms.Goals as goal

pub loop-i-preserved : goal.loop-i-preserved
loop-i-preserved c =
    let t = table_of c.args.table.forms.now in
    let here : c.loop-i.i < length c.args.table.forms.now = omega arith in
    faults_more (expansion_faults t) t _ (table_of (drop (c.loop-i.i + 1) c.args.table.forms.now)) (form_of c.index-table-i.result) (ap table_of (drop_here c.args.table.forms.now c.loop-i.i c.index-table-i.result here c.index-table-i.is)) (subst (λ (f : Form). expansion_faults t (form_of f) ≡ []) (sym c.index-table-i.is) c.in_ok-judge.ensures) c.loop-i.invariant

pub returns-in_err-judge : goal.returns-in_err-judge
returns-in_err-judge c =
    let t = table_of c.args.table.forms.now in
    let here : c.loop-i.i < length c.args.table.forms.now = omega arith in
    let p = err_from_is_err_and c.from_residual.result c.from_residual.ensures.1 in
    rw (p.1, p.2) (faults_refused (expansion_faults t) t _ (table_of (drop (c.loop-i.i + 1) c.args.table.forms.now)) (form_of c.index-table-i.result) _ (ap table_of (drop_here c.args.table.forms.now c.loop-i.i c.index-table-i.result here c.index-table-i.is)) (subst (λ (f : Form). Told (expansion_faults t (form_of f)) c.in_err-judge.field-0.0) (sym c.index-table-i.is) c.in_err-judge.ensures) c.loop-i.invariant)

pub returns : goal.returns
returns c =
    let t = table_of c.args.table.forms.now in
    faults_end (expansion_faults t) t _ (ap table_of (drop_of_length-le c.args.table.forms.now {i = c.loop-i.i} (omega arith))) c.loop-i.invariant
