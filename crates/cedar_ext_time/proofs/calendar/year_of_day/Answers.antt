use Rattle.std.proofs.Common.{◌+◌, ◌/◌, arith}
use Rattle.cedar_ext_time.proofs.Years.{year_known, years_short}
use Rattle.cedar_ext_time.proofs.calendar.year_of_day.Goals as goal

pub loop-year-init : goal.loop-year-init
loop-year-init c = record { begun = omega (arith, years_short (c.args.day / 366)); within = omega arith }

pub loop-year-smaller : goal.loop-year-smaller
loop-year-smaller c = omega (arith, year_known (c.loop-year.year + 1))

pub loop-year-preserved : goal.loop-year-preserved
loop-year-preserved c = record { begun = omega arith; within = omega (arith, year_known (c.loop-year.year + 1)) }
