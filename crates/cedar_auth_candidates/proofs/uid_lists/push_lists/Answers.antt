use Rattle.cedar_auth_candidates.proofs.Gathering.{first_more, first_all}
use Rattle.cedar_auth_candidates.proofs.uid_lists.push_lists.Goals as goal

pub loop-uid-preserved : goal.loop-uid-preserved
loop-uid-preserved c = (
  λ k m. c.in_ok-push_list.ensures.kept k (c.loop-uid.invariant.0 k m),
  first_more c.args.lists.now c.args.uids.now c.loop-uid.uid-index c.uid-item.result c.loop-uid.positions.items c.push_list.new.positions.items
      c.loop-uid-test.true c.uid-item.is c.in_ok-push_list.ensures.kept c.in_ok-push_list.ensures.added c.loop-uid.invariant.1,
)

pub returns-clause-added : goal.returns-clause-added
returns-clause-added c = first_all c.args.lists.now c.args.uids.now c.loop-uid.uid-index c.loop-uid.positions.items c.loop-uid-test.false c.loop-uid.invariant.1
