use Rattle.std.proofs.lemmas.Result.{err_from_is_err_and}
use Rattle.serde_json.specs.View.{view}
use Rattle.cedar_schema_json.specs.Reads.{scope_of}
use Rattle.cedar_schema_json.specs.FormView.{form_of}
use Rattle.cedar_schema_json.specs.TableView.{table_of}
use Rattle.cedar_schema_json.proofs.ShapeLemmas.{shape_form, shape_type, shape_kind, shape_fine}
use Rattle.cedar_schema_json.proofs.form.shape.read_given.Goals as goal

pub returns-in_err-form : goal.returns-in_err-form
returns-in_err-form c =
    let p = err_from_is_err_and c.from_residual.result c.from_residual.ensures.1 in
    rw (p.1, p.2) (shape_form (scope_of c.args.scope.now) (table_of c.args.table.forms.now) (view c.args.json.now) _ c.in_err-form.ensures)

pub returns-in_err-ty : goal.returns-in_err-ty
returns-in_err-ty c =
    let p = err_from_is_err_and c.from_residual-in_err-ty.result c.from_residual-in_err-ty.ensures.1 in
    rw (p.1, p.2) (shape_type (scope_of c.args.scope.now) (table_of c.args.table.forms.now) (view c.args.json.now) (form_of c.in_ok-form.form) _ c.in_ok-form.ensures.1 c.in_err-ty.ensures)

pub returns-then-is_record : goal.returns-then-is_record
returns-then-is_record c =
    shape_fine (scope_of c.args.scope.now) (table_of c.args.table.forms.now) (view c.args.json.now) (form_of c.in_ok-form.form) c.in_ok-ty.ty c.is_record.result c.in_ok-form.ensures.0 c.in_ok-form.ensures.1 c.in_ok-ty.ensures.0 c.in_ok-ty.ensures.1 c.is_record.ensures c.if-is_record.true

pub returns : goal.returns
returns c =
    shape_kind (scope_of c.args.scope.now) (table_of c.args.table.forms.now) (view c.args.json.now) (form_of c.in_ok-form.form) c.in_ok-ty.ty c.is_record.result c.in_ok-form.ensures.1 c.in_ok-ty.ensures.1 c.is_record.ensures c.if-is_record.false
