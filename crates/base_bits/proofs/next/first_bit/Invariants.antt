use Rattle.std.proofs.Common.{◌*◌}
use Rattle.base_bits.proofs.NextBits.{HasNoBitBetween}
use Rattle.base_bits.proofs.next.first_bit.Given as goal

abbrev pub invariant-loop-place : goal.invariant-loop-place
invariant-loop-place l = HasNoBitBetween l.row (l.start * 64) (l.place * 64)
