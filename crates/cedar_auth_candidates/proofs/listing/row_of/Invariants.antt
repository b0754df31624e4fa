use Rattle.std.proofs.Common.{take}
use Rattle.cedar_auth_candidates.specs.Private.Kept.{HasBits, HasBitsAlone}
use Rattle.cedar_auth_candidates.proofs.listing.row_of.Given as goal

abbrev pub invariant-loop-position : goal.invariant-loop-position
invariant-loop-position l = HasBits l.row.items (take l.position-index l.positions) × HasBitsAlone l.row.items (take l.position-index l.positions)
