use Rattle.std.proofs.lemmas.Result.{err_from_is_err_and}
use Rattle.cedar_conform.proofs.LinkLemmas.{items_refused, items_whole, items_left, items_end}
use Rattle.cedar_conform.proofs.links.read_items.Goals as goal

pub returns-in_err-link : goal.returns-in_err-link
returns-in_err-link c =
    let p = err_from_is_err_and c.from_residual.result c.from_residual.ensures.1 in
    rw (p.1, p.2) (items_refused c.args.items.now c.walk.rest.now c.in-Some.item.now c.in-Some.others.now c.in-Some.ensures.cases.0 c.walk.invariant.left _ c.in_err-link.ensures)

pub walk-preserved : goal.walk-preserved
walk-preserved c =
    let e = c.in-Some.ensures.cases.0 in
    record {
      whole = items_whole c.args.items.now c.walk.rest.now c.in-Some.item.now c.in-Some.others.now e c.walk.links.items c.push.new.self.items c.in_ok-link.link c.walk.invariant.whole c.in_ok-link.ensures c.in_ok-push.ensures.items;
      left = items_left c.args.items.now c.walk.rest.now c.in-Some.item.now c.in-Some.others.now e c.walk.invariant.left;
    }

pub returns : goal.returns
returns c = items_end c.args.items.now c.walk.rest.now c.walk.links.items c.in_default.ensures.cases c.walk.invariant.whole
