-- The day of a datetime, and the time of that day (Cedar language reference, extension functions: datetime).
use Rattle.std.specs.Prelude.{◌≡◌, ℤ, pos, ◌+ℤ◌, ◌-ℤ◌, ◌*ℤ◌, ◌≤ℤ◌, ◌<ℤ◌}
use Rattle.std.specs.Int.{int_rem_euclid}

-- m is the greatest multiple of a day that is not above z, where a day has 86400000 milliseconds (Cedar RFC 80).
pub record IsMidnightOf (z : ℤ) (m : ℤ) : Type 0 where
  pub days : ℤ
  pub multiple : m ≡ days *ℤ pos 86400000
  pub not_above : m ≤ℤ z
  pub greatest : z <ℤ (m +ℤ pos 86400000)

-- The milliseconds since the last midnight in UTC: the remainder by a day, which is not negative (Cedar RFC 80).
abbrev pub time_of_day : ℤ → ℤ
time_of_day z = int_rem_euclid z (pos 86400000)

-- The last midnight in UTC (Cedar RFC 80).
abbrev pub midnight : ℤ → ℤ
midnight z = z -ℤ time_of_day z
