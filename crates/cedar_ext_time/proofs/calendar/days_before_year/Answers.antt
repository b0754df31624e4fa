use Rattle.std.proofs.Common.{arith}
use Rattle.cedar_ext_time.proofs.Years.{years_closed}
use Rattle.cedar_ext_time.proofs.calendar.days_before_year.Goals as goal

pub returns-clause-days : goal.returns-clause-days
returns-clause-days c = omega (arith, years_closed c.args.year)
