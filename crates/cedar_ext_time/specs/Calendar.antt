-- The proleptic Gregorian calendar from the year 0000 on (Cedar language reference, extension functions: datetime).
use Rattle.std.specs.Prelude.{ℕ, zero, suc, ◌+◌, ◌-◌, ◌%◌, Bool, not, ◌&&◌, ◌||◌, nat_le, if◌then◌else◌}
use Rattle.std.specs.Bool.{◌==◌}

-- A year is a leap year where 4 divides it and 100 does not, or 400 does (Cedar RFC 80).
abbrev pub is_leap : ℕ → Bool
is_leap year = ((year % 4 == 0) && not (year % 100 == 0)) || (year % 400 == 0)

-- How many days a year has (Cedar RFC 80).
abbrev pub days_of_year : ℕ → ℕ
days_of_year year = if is_leap year then 366 else 365

-- How many days a month of a year has: 28 or 29 in February, 30 in April, June, September and November, 31 in the others, and
-- none where the number is not from 1 to 12 (Cedar RFC 80).
abbrev pub days_of_month : ℕ → ℕ → ℕ
days_of_month year month =
    if month == 2 then (if is_leap year then 29 else 28)
    else (if (month == 4) || (month == 6) || (month == 9) || (month == 11) then 30
    else (if nat_le 1 month && nat_le month 12 then 31 else 0))

-- How many days the years before a year have, from the year 0000 on (Cedar RFC 80).
unfoldable pub days_before_year : ℕ → ℕ
days_before_year zero = 0
days_before_year (suc year) = days_before_year year + days_of_year year

-- How many days the months before a month of a year have (Cedar RFC 80).
unfoldable pub days_before_month : ℕ → ℕ → ℕ
days_before_month year zero = 0
days_before_month year (suc month) = days_before_month year month + days_of_month year month

-- Whether the month of the year has this day, whose number is from 1 on (Cedar RFC 80).
abbrev pub has_day : ℕ → ℕ → ℕ → Bool
has_day year month day = nat_le 1 day && nat_le day (days_of_month year month)

-- How many days are from 0000-01-01 to a day (Cedar RFC 80).
abbrev pub day_count : ℕ → ℕ → ℕ → ℕ
day_count year month day = days_before_year year + days_before_month year month + (day - 1)
