use Rattle.cedar_store.specs.Private.Changing.{seen}
use Rattle.cedar_store.proofs.MoreChanges.{removals_more}
use Rattle.cedar_store.proofs.more_changes.with_removals.Goals as goal

pub loop-uid-preserved : goal.loop-uid-preserved
loop-uid-preserved c =
    let w = c.args.base.now.world in
    removals_more c.args.removed.now c.loop-uid.uid-index c.uid-item.result (seen w c.loop-uid.changes) (seen w c.in_ok-changes-2.changes) (seen w c.args.old.now) c.loop-uid-test.true c.uid-item.is c.loop-uid.invariant c.in_ok-changes-2.ensures
