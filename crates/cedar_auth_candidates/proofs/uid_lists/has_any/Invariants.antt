use Rattle.std.proofs.Common.{take}
use Rattle.cedar_auth_candidates.specs.Private.Kept.{LacksBits}
use Rattle.cedar_auth_candidates.proofs.uid_lists.has_any.Given as goal

abbrev pub invariant-loop-position : goal.invariant-loop-position
invariant-loop-position l = LacksBits l.row (take l.position-index l.positions)
