use Rattle.std.proofs.Common.{◌≡◌, false, take}
use Rattle.cedar_auth_candidates.specs.Private.Met.{is_within_one_of}
use Rattle.cedar_auth_candidates.proofs.action_scope.is_within_one.Given as goal

abbrev pub invariant-loop-uid : goal.invariant-loop-uid
invariant-loop-uid g l = (is_within_one_of l.fn.action.world l.fn.action.uid (take l.uid-index l.uids) ≡ false) × (l.action ≡ l.fn.action)
