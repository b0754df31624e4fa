use Rattle.std.proofs.Common.{◌≤◌, ◌-◌}
use Rattle.cedar_ext_time.specs.Calendar.{days_before_year}
use Rattle.cedar_ext_time.proofs.calendar.year_of_day.Given as goal

abbrev pub invariant-loop-year : goal.invariant-loop-year
invariant-loop-year l = record { begun : days_before_year l.year ≤ l.day; within : l.year ≤ 9999 }

abbrev pub decreases-loop-year : goal.decreases-loop-year
decreases-loop-year l = 9999 - l.year
