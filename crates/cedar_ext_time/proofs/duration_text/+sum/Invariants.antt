use Rattle.std.proofs.Common.{length}
use Rattle.cedar_ext_time.proofs.duration_text.+sum.Given as goal

abbrev pub decreases-sum : goal.decreases-sum
decreases-sum l = length l.units.now
