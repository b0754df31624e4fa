use Rattle.cedar_auth_candidates.specs.Private.Kept.{Holds}
use Rattle.cedar_auth_candidates.proofs.Asking.{HoldsOrLeft}
use Rattle.cedar_auth_candidates.proofs.uid_lists.push_below.Given as goal

abbrev pub invariant-loop-uid : goal.invariant-loop-uid
invariant-loop-uid l = Holds l.initial.positions.items l.positions.items × HoldsOrLeft l.fn.store l.fn.entity l.lists.entries l.uid-iterator l.positions.items
