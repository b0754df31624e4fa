use Rattle.std.proofs.Common.{take}
use Rattle.cedar_auth_candidates.specs.Private.Kept.{Holds}
use Rattle.cedar_auth_candidates.proofs.ListedPositions.{AreFound}
use Rattle.cedar_auth_candidates.proofs.listing.with_bits.Given as goal

abbrev pub invariant-loop-position : goal.invariant-loop-position
invariant-loop-position l = AreFound l.row (take l.position-index l.positions) l.found.items × Holds l.found.items (take l.position-index l.positions)
