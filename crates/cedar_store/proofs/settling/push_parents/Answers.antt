use Rattle.std.proofs.Common.{subst, take}
use Rattle.cedar_store.specs.Private.Overlaid.{world_over}
use Rattle.cedar_store.proofs.Due.{IsDue, AreParentsDue, still_parents_due}
use Rattle.cedar_store.proofs.EachMore.{Each, each_none, each_more, each_all}
use Rattle.cedar_store.proofs.Marked.{Keeps}
use Rattle.cedar_store.proofs.settling.push_parents.Goals as goal

pub loop-uid-init : goal.loop-uid-init
loop-uid-init c = (λ p m. m, each_none (AreParentsDue c.args.links.now.base.now (world_over c.args.links.now.base.now.world c.args.links.now.changes.now) c.args.due.now.items) c.args.uids.now)

pub loop-uid-preserved : goal.loop-uid-preserved
loop-uid-preserved c =
    let b = c.args.links.now.base.now in
    let world = world_over b.world c.args.links.now.changes.now in
    let us = c.args.uids.now in
    let i = c.loop-uid.uid-index in
    let old = c.loop-uid.due.items in
    let new = c.push_unnumbered.new.due.items in
    let keeps : Keeps old new = c.in_ok-push_unnumbered.ensures.kept in (
      λ p m. keeps p (c.loop-uid.invariant.0 p m),
      each_more (AreParentsDue b world new) us i c.uid-item.result c.loop-uid-test.true c.uid-item.is (still_parents_due b world old new (take i us) keeps c.loop-uid.invariant.1) (subst (Each (IsDue b new)) c.links.ensures c.in_ok-push_unnumbered.ensures.appended),
    )

pub returns-clause-parents : goal.returns-clause-parents
returns-clause-parents c =
    λ u p m. each_all (AreParentsDue c.args.links.now.base.now (world_over c.args.links.now.base.now.world c.args.links.now.changes.now) c.loop-uid.due.items) c.args.uids.now c.loop-uid.uid-index c.loop-uid-test.false c.loop-uid.invariant.1 u m p
