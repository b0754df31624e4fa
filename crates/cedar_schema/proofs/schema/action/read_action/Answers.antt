use Rattle.std.proofs.lemmas.Result.{err_from_is_err_and}
use Rattle.cedar_schema_json.specs.Reads.{scope_of}
use Rattle.cedar_schema_json.specs.TableView.{table_of}
use Rattle.cedar_schema_json.specs.EntryView.{entry_of}
use Rattle.cedar_schema.proofs.DeclaringLemmas.{action_part, action_members, action_applies, action_attributes, action_fine}
use Rattle.cedar_schema.proofs.schema.action.read_action.Goals as goal

pub returns-in_err-check_part : goal.returns-in_err-check_part
returns-in_err-check_part c =
    let p = err_from_is_err_and c.from_residual.result c.from_residual.ensures.1 in
    rw (p.1, p.2) (action_part (scope_of c.args.scope.now) (table_of c.args.table.forms.now) c.args.uids.now.keys (entry_of c.args.entry) _ c.in_err-check_part.ensures)

pub returns-in_err-parents : goal.returns-in_err-parents
returns-in_err-parents c =
    let p = err_from_is_err_and c.from_residual-in_err-parents.result c.from_residual-in_err-parents.ensures.1 in
    rw (p.1, p.2) (action_members (scope_of c.args.scope.now) (table_of c.args.table.forms.now) c.args.uids.now.keys (entry_of c.args.entry) _ _ c.present.ensures c.in_err-parents.ensures)

pub returns-in_err-applies : goal.returns-in_err-applies
returns-in_err-applies c =
    let p = err_from_is_err_and c.from_residual-in_err-applies.result c.from_residual-in_err-applies.ensures.1 in
    rw (p.1, p.2) (action_applies (scope_of c.args.scope.now) (table_of c.args.table.forms.now) c.args.uids.now.keys (entry_of c.args.entry) _ _ c.present-2.ensures c.in_err-applies.ensures)

pub returns-in_err-check_empty : goal.returns-in_err-check_empty
returns-in_err-check_empty c =
    let p = err_from_is_err_and c.from_residual-in_err-check_empty.result c.from_residual-in_err-check_empty.ensures.1 in
    rw (p.1, p.2) (action_attributes (scope_of c.args.scope.now) (table_of c.args.table.forms.now) c.args.uids.now.keys (entry_of c.args.entry) _ _ c.present-3.ensures c.in_err-check_empty.ensures)

pub returns : goal.returns
returns c =
    action_fine (scope_of c.args.scope.now) (table_of c.args.table.forms.now) c.args.uids.now.keys (entry_of c.args.entry) _ _ _ c.in_ok-parents.parents.items c.in_ok-applies.applies c.present.ensures c.present-2.ensures c.present-3.ensures
    c.in_ok-check_part.ensures c.in_ok-parents.ensures c.in_ok-applies.ensures c.in_ok-check_empty.ensures
