use Rattle.std.proofs.Common.{arith, sym}
use Rattle.cedar_ext_time.proofs.Years.{month_zero, month_more}
use Rattle.cedar_ext_time.proofs.calendar.days_before_month.Goals as goal

pub loop-earlier-init : goal.loop-earlier-init
loop-earlier-init c = record { days_are = sym (month_zero c.args.year); within = omega arith }

pub loop-earlier-preserved : goal.loop-earlier-preserved
loop-earlier-preserved c = record {
  days_are = omega (arith, month_more c.args.year c.loop-earlier.earlier, c.loop-earlier.invariant.days_are, c.days_of_month-days.ensures.days);
  within = omega arith;
}
