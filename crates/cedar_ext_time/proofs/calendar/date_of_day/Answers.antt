use Rattle.std.proofs.Common.{arith}
use Rattle.cedar_ext_time.proofs.Years.{year_next}
use Rattle.cedar_ext_time.proofs.calendar.date_of_day.Goals as goal

pub date_in_year-requires-clause-known_days : goal.date_in_year-requires-clause-known_days
date_in_year-requires-clause-known_days c = omega (arith, year_next c.year_of_day-year.result)
