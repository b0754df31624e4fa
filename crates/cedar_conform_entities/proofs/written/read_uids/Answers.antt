use Rattle.std.proofs.lemmas.Result.{err_from_is_err_and}
use Rattle.serde_json.specs.View.{view, items_view}
use Rattle.cedar_conform_entities.proofs.EntryLemmas.{uids_more, uids_refused, uids_end}
use Rattle.cedar_conform_entities.proofs.written.read_uids.Goals as goal

pub returns-in_err-uid : goal.returns-in_err-uid
returns-in_err-uid c =
    let p = err_from_is_err_and c.from_residual-in_err-uid.result c.from_residual-in_err-uid.ensures.1 in
    rw (p.1, p.2) (uids_refused view c.walk.uids.items c.walk.rest.now c.in-Some.others.now c.in-Some.item.now (items_view c.args.items.now) _ c.in-Some.ensures.cases.0 c.in_err-uid.ensures c.walk.invariant)

pub walk-preserved : goal.walk-preserved
walk-preserved c =
    uids_more view c.walk.uids.items c.push.new.self.items c.walk.rest.now c.in-Some.others.now c.in-Some.item.now (items_view c.args.items.now) c.in_ok-uid.uid c.in-Some.ensures.cases.0 c.in_ok-uid.ensures c.in_ok-push.ensures.items c.walk.invariant

pub returns : goal.returns
returns c = uids_end view c.walk.uids.items c.walk.rest.now (items_view c.args.items.now) c.in_default.ensures.cases c.walk.invariant
