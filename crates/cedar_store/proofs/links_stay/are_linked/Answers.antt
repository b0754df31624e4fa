use Rattle.cedar_store.specs.Private.Overlaid.{IsLinked}
use Rattle.cedar_store.proofs.EachMore.{each_none, each_more, each_all}
use Rattle.cedar_store.proofs.links_stay.are_linked.Goals as goal

pub loop-uid-init : goal.loop-uid-init
loop-uid-init c = each_none (IsLinked c.args.base.now c.args.settled.now.world c.args.noted.now) c.args.uids.now

pub loop-uid-preserved : goal.loop-uid-preserved
loop-uid-preserved c =
    each_more (IsLinked c.args.base.now c.args.settled.now.world c.args.noted.now) c.args.uids.now c.loop-uid.uid-index c.uid-item.result c.loop-uid-test.true c.uid-item.is c.loop-uid.invariant (c.is_linked.ensures.0 c.if-not-is_linked.false)

pub returns : goal.returns
returns c = λ t. each_all (IsLinked c.args.base.now c.args.settled.now.world c.args.noted.now) c.args.uids.now c.loop-uid.uid-index c.loop-uid-test.false c.loop-uid.invariant
