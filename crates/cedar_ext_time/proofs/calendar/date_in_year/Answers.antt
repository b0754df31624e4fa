use Rattle.std.proofs.Common.{arith}
use Rattle.cedar_ext_time.proofs.Years.{month_zero, month_more, not_last}
use Rattle.cedar_ext_time.proofs.calendar.date_in_year.Goals as goal

pub loop-left-init : goal.loop-left-init
loop-left-init c = record {
  left_are = omega (arith, month_zero c.args.year, month_more c.args.year 0);
  known = omega arith;
  within = omega arith;
}

pub loop-left-smaller : goal.loop-left-smaller
loop-left-smaller c = omega (arith, not_last c.args.year c.loop-left.month, month_more c.args.year c.loop-left.month)

pub loop-left-preserved : goal.loop-left-preserved
loop-left-preserved c = record {
  left_are = omega (arith, month_more c.args.year c.loop-left.month);
  known = omega arith;
  within = omega (arith, not_last c.args.year c.loop-left.month, month_more c.args.year c.loop-left.month);
}
