use Rattle.std.proofs.Common.{take}
use Rattle.cedar_check_spec.specs.Typing.{IsInOne}
use Rattle.cedar_auth_candidates.proofs.scope_tests.is_within_one.Given as goal

abbrev pub invariant-loop-uid : goal.invariant-loop-uid
invariant-loop-uid l = ¬ IsInOne l.schema l.action (take l.uid-index l.uids)
