use Rattle.std.proofs.lemmas.Result.{err_from_is_err_and}
use Rattle.serde_json.specs.View.{items_view, view}
use Rattle.cedar_conform_entities.proofs.ChangesLemmas.{upserts_start, upserts_more, upserts_refused, upserts_twice, upserts_end}
use Rattle.cedar_conform_entities.proofs.upserts.read_upserts.Goals as goal

pub walk-init : goal.walk-init
walk-init c = upserts_start c.args.schema.now (items_view c.args.entries.now) c.new-upserted.result.items c.new-written.result c.new-upserted.ensures.items c.new-written.ensures.empty

pub returns-in_err-entry : goal.returns-in_err-entry
returns-in_err-entry c =
    let p = err_from_is_err_and c.from_residual.result c.from_residual.ensures.1 in
    rw (p.1, p.2) (upserts_refused c.args.schema.now (items_view c.args.entries.now) view c.walk.rest.now c.in-Some.others.now c.in-Some.json.now c.in-Some.ensures.cases.0 c.walk.upserted.items c.walk.written c.walk.invariant _ c.in_err-entry.ensures)

pub returns-in_err-upsert : goal.returns-in_err-upsert
returns-in_err-upsert c =
    let p = err_from_is_err_and c.from_residual-in_err-upsert.result c.from_residual-in_err-upsert.ensures.1 in
    rw (p.1, p.2) (upserts_twice c.args.schema.now (items_view c.args.entries.now) view c.walk.rest.now c.in-Some.others.now c.in-Some.json.now c.in-Some.ensures.cases.0 c.walk.upserted.items c.walk.written c.walk.invariant c.in_ok-entry.entry c.in_ok-entry.ensures _ c.in_err-upsert.ensures)

pub walk-preserved : goal.walk-preserved
walk-preserved c =
    upserts_more c.args.schema.now (items_view c.args.entries.now) view c.walk.rest.now c.in-Some.others.now c.in-Some.json.now c.in-Some.ensures.cases.0 c.walk.upserted.items c.walk.written c.walk.invariant c.in_ok-entry.entry c.in_ok-entry.ensures
    c.upsert.new.upserted.items c.upsert.new.written c.in_ok-upsert.ensures.0 c.in_ok-upsert.ensures.1

pub returns : goal.returns
returns c = upserts_end c.args.schema.now (items_view c.args.entries.now) view c.walk.rest.now c.walk.upserted.items c.walk.written c.in_default.ensures.cases c.walk.invariant
