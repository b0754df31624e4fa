use Rattle.std.proofs.lemmas.Result.{err_from_is_err_and}
use Rattle.serde_json.specs.View.{view}
use Rattle.cedar_schema_json.specs.Reads.{scope_of}
use Rattle.cedar_schema_json.specs.TableView.{table_of}
use Rattle.cedar_schema.proofs.DeclaringLemmas.{applies_part, applies_principals, applies_resources, applies_context, applies_fine}
use Rattle.cedar_schema.proofs.schema.action.read_given.Goals as goal

pub returns-in_err-check_part : goal.returns-in_err-check_part
returns-in_err-check_part c =
    let p = err_from_is_err_and c.from_residual.result c.from_residual.ensures.1 in
    rw (p.1, p.2) (applies_part (scope_of c.args.scope.now) (table_of c.args.table.forms.now) (view c.args.json.now) _ c.in_err-check_part.ensures)

pub returns-in_err-principals : goal.returns-in_err-principals
returns-in_err-principals c =
    let p = err_from_is_err_and c.from_residual-in_err-principals.result c.from_residual-in_err-principals.ensures.1 in
    rw (p.1, p.2) (applies_principals (scope_of c.args.scope.now) (table_of c.args.table.forms.now) (view c.args.json.now) _ _ c.in_ok-check_part.ensures c.get.ensures c.in_err-principals.ensures)

pub returns-in_err-resources : goal.returns-in_err-resources
returns-in_err-resources c =
    let p = err_from_is_err_and c.from_residual-in_err-resources.result c.from_residual-in_err-resources.ensures.1 in
    rw (p.1, p.2) (applies_resources (scope_of c.args.scope.now) (table_of c.args.table.forms.now) (view c.args.json.now) _ _ c.in_ok-check_part.ensures c.get-2.ensures c.in_err-resources.ensures)

pub returns-in_err-context : goal.returns-in_err-context
returns-in_err-context c =
    let p = err_from_is_err_and c.from_residual-in_err-context.result c.from_residual-in_err-context.ensures.1 in
    rw (p.1, p.2) (applies_context (scope_of c.args.scope.now) (table_of c.args.table.forms.now) (view c.args.json.now) _ _ c.get-3.ensures c.in_err-context.ensures)

pub returns : goal.returns
returns c =
    applies_fine (scope_of c.args.scope.now) (table_of c.args.table.forms.now) (view c.args.json.now) _ _ _ _ c.in_ok-principals.principals.items c.in_ok-resources.resources.items c.get.ensures c.get-2.ensures c.get-3.ensures
    c.in_ok-check_part.ensures c.in_ok-principals.ensures c.in_ok-resources.ensures c.in_ok-context.ensures c.in_ok-set_of.ensures c.in_ok-set_of-2.ensures
