use Rattle.std.proofs.Common.{◌≡◌, arith}
use Rattle.std.proofs.lemmas.Int.{ints}
use Rattle.cedar_ext_time.specs.Calendar.{days_before_year}
use Rattle.cedar_ext_time.proofs.Years.{years_1970}
use Rattle.cedar_ext_time.proofs.datetime.joined.Goals as goal

pub returns : goal.returns
returns c = let k : days_before_year 1970 ≡ 719528 = years_1970 in omega (arith, ints)
