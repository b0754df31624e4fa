use Rattle.std.proofs.lemmas.Result.{err_from_is_err_and}
use Rattle.cedar_schema_json.specs.Reads.{scope_of}
use Rattle.cedar_schema_json.specs.TableView.{table_of}
use Rattle.cedar_schema_json.specs.EntryView.{entry_of}
use Rattle.cedar_schema.proofs.DeclaringLemmas.{entity_key, entity_part, entity_members, entity_shape, entity_fine}
use Rattle.cedar_schema.proofs.schema.entity_type.read_entity_type.Goals as goal

pub returns-in_err-check_entity_key : goal.returns-in_err-check_entity_key
returns-in_err-check_entity_key c =
    let p = err_from_is_err_and c.from_residual.result c.from_residual.ensures.1 in
    rw (p.1, p.2) (entity_key (scope_of c.args.scope.now) (table_of c.args.table.forms.now) (entry_of c.args.entry) _ c.in_err-check_entity_key.ensures)

pub returns-in_err-check_part : goal.returns-in_err-check_part
returns-in_err-check_part c =
    let p = err_from_is_err_and c.from_residual-in_err-check_part.result c.from_residual-in_err-check_part.ensures.1 in
    rw (p.1, p.2) (entity_part (scope_of c.args.scope.now) (table_of c.args.table.forms.now) (entry_of c.args.entry) _ c.in_err-check_part.ensures)

pub returns-in_err-parents : goal.returns-in_err-parents
returns-in_err-parents c =
    let p = err_from_is_err_and c.from_residual-in_err-parents.result c.from_residual-in_err-parents.ensures.1 in
    rw (p.1, p.2) (entity_members (scope_of c.args.scope.now) (table_of c.args.table.forms.now) (entry_of c.args.entry) _ _ c.get.ensures c.in_err-parents.ensures)

pub returns-in_err-shape : goal.returns-in_err-shape
returns-in_err-shape c =
    let p = err_from_is_err_and c.from_residual-in_err-shape.result c.from_residual-in_err-shape.ensures.1 in
    rw (p.1, p.2) (entity_shape (scope_of c.args.scope.now) (table_of c.args.table.forms.now) (entry_of c.args.entry) _ _ c.get-2.ensures c.in_err-shape.ensures)

pub returns : goal.returns
returns c =
    entity_fine (scope_of c.args.scope.now) (table_of c.args.table.forms.now) (entry_of c.args.entry) _ _ c.in_ok-parents.parents.items c.in_ok-shape.shape c.get.ensures c.get-2.ensures c.in_ok-check_entity_key.ensures c.in_ok-check_part.ensures c.in_ok-parents.ensures c.in_ok-shape.ensures
