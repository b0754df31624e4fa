use Rattle.std.proofs.Common.{◌≡◌, ◌+◌, ◌≤◌, ◌-◌}
use Rattle.cedar_ext_time.specs.Calendar.{days_before_month}
use Rattle.cedar_ext_time.proofs.calendar.date_in_year.Given as goal

abbrev pub invariant-loop-left : goal.invariant-loop-left
invariant-loop-left l = record { left_are : days_before_month l.year l.month + l.left ≡ l.days; known : 1 ≤ l.month; within : l.month ≤ 12 }

abbrev pub decreases-loop-left : goal.decreases-loop-left
decreases-loop-left l = 12 - l.month
