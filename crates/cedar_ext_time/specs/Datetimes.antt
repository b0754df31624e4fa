-- Which texts are datetimes, and of how many milliseconds since 1970 (Cedar language reference, extension functions: datetime).
use Rattle.std.specs.Prelude.{◌≡◌, ◌⊎◌, ◌++◌, ℕ, ◌+◌, ◌*◌, ℤ, pos, ◌-ℤ◌, Bool, true, ◌&&◌, List, [], ◌∷◌, if◌then◌else◌, nat_le}
use Rattle.cedar_ext_time.specs.Digits.{are_digits, number_of}
use Rattle.cedar_ext_time.specs.Durations.{signed}
use Rattle.cedar_ext_time.specs.Calendar.{has_day, day_count, days_before_year}

-- The text is the date of a day, so many days after 0000-01-01: a year of four digits, a month and a day of two, with `-`
-- between them, where the month has the day (Cedar RFC 80).
pub record IsDate (text : List ℕ) (days : ℕ) : Type 0 where
  pub year : List ℕ
  pub month : List ℕ
  pub day : List ℕ
  pub text_is : text ≡ year ++ 45 ∷ (month ++ 45 ∷ day)
  pub year_digits : are_digits 4 year ≡ true
  pub month_digits : are_digits 2 month ≡ true
  pub day_digits : are_digits 2 day ≡ true
  pub there : has_day (number_of year) (number_of month) (number_of day) ≡ true
  pub days_are : days ≡ day_count (number_of year) (number_of month) (number_of day)

-- Whether a clock shows this time: hours to 23, minutes and seconds to 59, without leap seconds (Cedar RFC 80).
abbrev pub is_clock : ℕ → ℕ → ℕ → Bool
is_clock hour minute second = nat_le hour 23 && nat_le minute 59 && nat_le second 59

-- The milliseconds of hours, minutes and seconds (Cedar RFC 80).
abbrev pub clock_milliseconds : ℕ → ℕ → ℕ → ℕ
clock_milliseconds hour minute second = hour * 3600000 + minute * 60000 + second * 1000

-- The text is a time of day, so many milliseconds after midnight: `T`, then hours, minutes and seconds of two digits with `:`
-- between them (Cedar RFC 80).
pub record IsTime (text : List ℕ) (milliseconds : ℕ) : Type 0 where
  pub hour : List ℕ
  pub minute : List ℕ
  pub second : List ℕ
  pub text_is : text ≡ 84 ∷ (hour ++ 58 ∷ (minute ++ 58 ∷ second))
  pub hour_digits : are_digits 2 hour ≡ true
  pub minute_digits : are_digits 2 minute ≡ true
  pub second_digits : are_digits 2 second ≡ true
  pub there : is_clock (number_of hour) (number_of minute) (number_of second) ≡ true
  pub milliseconds_are : milliseconds ≡ clock_milliseconds (number_of hour) (number_of minute) (number_of second)

-- The text is the fraction of a second in milliseconds: nothing, or `.` and three digits (Cedar RFC 80).
abbrev pub IsFraction : List ℕ → ℕ → Type 0
IsFraction text milliseconds =
    ((text ≡ []) × (milliseconds ≡ 0))
    ⊎ ((digits : List ℕ) × (text ≡ 46 ∷ digits) × (are_digits 3 digits ≡ true) × (milliseconds ≡ number_of digits))

-- The text is an offset from UTC in milliseconds, east is positive: `+` or `-`, then hours and minutes of two digits, at most
-- 23 hours and 59 minutes (Cedar RFC 80).
pub record IsOffset (text : List ℕ) (milliseconds : ℤ) : Type 0 where
  pub west : Bool
  pub hours : List ℕ
  pub minutes : List ℕ
  pub text_is : text ≡ (if west then 45 else 43) ∷ (hours ++ minutes)
  pub hours_digits : are_digits 2 hours ≡ true
  pub minutes_digits : are_digits 2 minutes ≡ true
  pub there : is_clock (number_of hours) (number_of minutes) 0 ≡ true
  pub milliseconds_are : milliseconds ≡ signed west (clock_milliseconds (number_of hours) (number_of minutes) 0)

-- The text is a zone: `Z` for UTC, or an offset (Cedar RFC 80).
abbrev pub IsZone : List ℕ → ℤ → Type 0
IsZone text milliseconds = ((text ≡ 90 ∷ []) × (milliseconds ≡ pos 0)) ⊎ IsOffset text milliseconds

-- Milliseconds since 0000-01-01 as milliseconds since 1970-01-01 (Cedar RFC 80).
abbrev pub since_1970 : ℕ → ℤ
since_1970 milliseconds = pos milliseconds -ℤ pos (days_before_year 1970 * 86400000)

-- The text is a date alone, which is its midnight in UTC (Cedar RFC 80).
abbrev pub IsDay : List ℕ → ℤ → Type 0
IsDay text z = (days : ℕ) × IsDate text days × (z ≡ since_1970 (days * 86400000))

-- The text is a date, a time of day, perhaps a fraction of a second, and a zone. An offset to the east is earlier in UTC
-- (Cedar RFC 80).
pub record IsMoment (text : List ℕ) (z : ℤ) : Type 0 where
  pub date : List ℕ
  pub time : List ℕ
  pub fraction : List ℕ
  pub zone : List ℕ
  pub days : ℕ
  pub seconds : ℕ
  pub part : ℕ
  pub offset : ℤ
  pub text_is : text ≡ date ++ (time ++ (fraction ++ zone))
  pub date_is : IsDate date days
  pub time_is : IsTime time seconds
  pub fraction_is : IsFraction fraction part
  pub zone_is : IsZone zone offset
  pub value : z ≡ since_1970 (days * 86400000 + seconds + part) -ℤ offset

-- The text is a datetime of z milliseconds since 1970-01-01T00:00:00Z (Cedar RFC 80).
abbrev pub IsDatetime : List ℕ → ℤ → Type 0
IsDatetime text z = IsDay text z ⊎ IsMoment text z
