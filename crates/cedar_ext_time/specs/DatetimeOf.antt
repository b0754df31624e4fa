-- The milliseconds of a datetime as a function of its text, which is cut at fixed places.
use Rattle.std.specs.Prelude.{ℕ, ◌+◌, ◌*◌, ℤ, pos, ◌-ℤ◌, Bool, true, false, ◌&&◌, List, [], ◌∷◌, length, take, drop, min, Option, Some, None, if◌then◌else◌, nat_lt, nat_eq, slice_index}
use Rattle.std.specs.Bool.{◌==◌}
use Rattle.std.specs.List.{list_all}
use Rattle.std.specs.Char.{is_ascii_digit}
use Rattle.cedar_ext_time.specs.Digits.{are_digits, number_of}
use Rattle.cedar_ext_time.specs.Durations.{signed}
use Rattle.cedar_ext_time.specs.Calendar.{has_day, day_count}
use Rattle.cedar_ext_time.specs.Datetimes.{is_clock, clock_milliseconds, since_1970}

-- Whether a text has digits and `-` where a date has them (Cedar RFC 80).
abbrev pub has_date_form : List ℕ → Bool
has_date_form text =
    nat_eq (length text) 10 && (slice_index text 4 == 45) && (slice_index text 7 == 45)
    && list_all is_ascii_digit (take 4 text) && list_all is_ascii_digit (take 2 (drop 5 text)) && list_all is_ascii_digit (take 2 (drop 8 text))

-- The day of a year, month and day, where there is that day (Cedar RFC 80).
abbrev pub day_of : ℕ → ℕ → ℕ → Option ℕ
day_of year month day = if has_day year month day then Some (day_count year month day) else None

-- The day of a date's text, from 0000-01-01 on, none for another text (Cedar RFC 80).
unfoldable pub date_of : List ℕ → Option ℕ
date_of text =
    if has_date_form text then day_of (number_of (take 4 text)) (number_of (take 2 (drop 5 text))) (number_of (take 2 (drop 8 text))) else None

-- Whether a text has `T`, digits and `:` where a time of day has them (Cedar RFC 80).
abbrev pub has_time_form : List ℕ → Bool
has_time_form text =
    nat_eq (length text) 9 && (slice_index text 0 == 84) && (slice_index text 3 == 58) && (slice_index text 6 == 58)
    && list_all is_ascii_digit (take 2 (drop 1 text)) && list_all is_ascii_digit (take 2 (drop 4 text)) && list_all is_ascii_digit (take 2 (drop 7 text))

-- The milliseconds of hours, minutes and seconds, where a clock shows them (Cedar RFC 80).
abbrev pub clock_of : ℕ → ℕ → ℕ → Option ℕ
clock_of hour minute second = if is_clock hour minute second then Some (clock_milliseconds hour minute second) else None

-- The milliseconds of the text of a time of day, none for another text (Cedar RFC 80).
unfoldable pub time_of : List ℕ → Option ℕ
time_of text =
    if has_time_form text then clock_of (number_of (take 2 (drop 1 text))) (number_of (take 2 (drop 4 text))) (number_of (take 2 (drop 7 text))) else None

-- The milliseconds of a fraction of a second, none for another text (Cedar RFC 80).
unfoldable pub fraction_of : List ℕ → Option ℕ
fraction_of [] = Some 0
fraction_of (b ∷ digits) = if (b == 46) && are_digits 3 digits then Some (number_of digits) else None

-- The offset with its sign, where there is one (own).
abbrev pub signed_offset : Bool → Option ℕ → Option ℤ
signed_offset west None = None
signed_offset west (Some n) = Some (signed west n)

-- The offset of hours and minutes of two digits, without their sign (Cedar RFC 80).
abbrev pub offset_of : List ℕ → Option ℕ
offset_of digits =
    if are_digits 4 digits then clock_of (number_of (take 2 digits)) (number_of (take 2 (drop 2 digits))) 0 else None

-- The offset of a zone's text in milliseconds, none for another text (Cedar RFC 80).
unfoldable pub zone_of : List ℕ → Option ℤ
zone_of [] = None
zone_of (b ∷ digits) =
    if (b == 90) && nat_eq (length digits) 0 then Some (pos 0)
    else (if b == 45 then signed_offset true (offset_of digits) else (if b == 43 then signed_offset false (offset_of digits) else None))

-- How many bytes the fraction of a second has at the beginning of a text: up to four from `.` on, else none (own).
abbrev pub fraction_len : List ℕ → ℕ
fraction_len [] = 0
fraction_len (b ∷ rest) = if b == 46 then min 4 (length (b ∷ rest)) else 0

-- The milliseconds of a date alone (Cedar RFC 80).
abbrev pub midnight_of : Option ℕ → Option ℤ
midnight_of None = None
midnight_of (Some days) = Some (since_1970 (days * 86400000))

-- The milliseconds of a date, a time of day, a fraction and a zone, where there is each of them (Cedar RFC 80).
abbrev pub joined : Option ℕ → Option ℕ → Option ℕ → Option ℤ → Option ℤ
joined (Some days) (Some seconds) (Some part) (Some offset) = Some (since_1970 (days * 86400000 + seconds + part) -ℤ offset)
joined _ _ _ _ = None

-- The milliseconds of a date, a time of day and what follows (Cedar RFC 80).
abbrev pub moment_of : List ℕ → List ℕ → List ℕ → Option ℤ
moment_of date time rest =
    joined (date_of date) (time_of time) (fraction_of (take (fraction_len rest) rest)) (zone_of (drop (fraction_len rest) rest))

-- The milliseconds of a datetime's text, none for another text. `Datetime::read` ties it to `IsDatetime` (Cedar RFC 80).
abbrev pub datetime_of : List ℕ → Option ℤ
datetime_of text =
    if nat_lt (length text) 19 then midnight_of (date_of text)
    else moment_of (take 10 text) (take 9 (drop 10 text)) (drop 9 (drop 10 text))
