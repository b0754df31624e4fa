use Rattle.cedar_auth_candidates.specs.Private.Kept.{Holds}
use Rattle.cedar_auth_candidates.proofs.Gathering.{HoldsFirst}
use Rattle.cedar_auth_candidates.proofs.uid_lists.push_lists.Given as goal

abbrev pub invariant-loop-uid : goal.invariant-loop-uid
invariant-loop-uid l = Holds l.initial.positions.items l.positions.items × HoldsFirst l.lists l.uids l.uid-index l.positions.items
