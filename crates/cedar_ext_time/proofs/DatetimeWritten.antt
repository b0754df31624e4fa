-- A datetime that is written in UTC reads as itself.
use Rattle.std.proofs.Common.{◌≡◌, ℕ, zero, suc, ◌+◌, ◌-◌, ◌*◌, ◌/◌, ◌%◌, ◌^◌, ◌≤◌, ◌<◌, ℤ, pos, ◌-ℤ◌, true, nat_le, Some, Result, Ok, Err, IfOk, List, [], ◌∷◌, ◌++◌, length, replicate, inr, refl, sym, subst, ap, ◌∙◌, arith, drop, append_assoc, append-nil, length-append, inl, eq-eqb}
use Rattle.std.specs.List.{list_all}
use Rattle.std.specs.Char.{is_ascii_digit}
use Rattle.std.specs.Fmt.{decimal, padded_integral, char_count}
use Rattle.std.proofs.lemmas.Int.{ints}
use Rattle.std.proofs.lemmas.Bool.Decides.{nat_tests}
use Rattle.std.proofs.lemmas.Fmt.{digits_decimal, digits_value-decimal, length-decimal-le}
use Rattle.cedar_ext_time.specs.Digits.{are_digits, number_of}
use Rattle.cedar_ext_time.specs.Calendar.{has_day, day_count}
use Rattle.cedar_ext_time.specs.Datetimes.{IsDate, IsTime, IsFraction, is_clock, clock_milliseconds, since_1970}
use Rattle.cedar_ext_time.specs.DatetimeOf.{day_of, datetime_of}
use Rattle.cedar_ext_time.specs.Private.Written.{padded, date_text, clock_text, time_text, fraction_text, moment_text}
use Rattle.cedar_ext_time.proofs.Cut.{tested, some_is, drop_first}
use Rattle.cedar_ext_time.proofs.DateTexts.{date_length, time_length}
use Rattle.cedar_ext_time.proofs.Runs.{and_both}
use Rattle.cedar_ext_time.proofs.Written.{own}
use Rattle.cedar_ext_time.proofs.DatetimeTexts.{datetime_found}

zeros_before : (width n : ℕ) → padded width n ≡ replicate (width - length (decimal n)) 48 ++ decimal n
unfolding padded_integral char_count
zeros_before width n =
    let padding : width - length (decimal n) - 0 - 0 ≡ width - length (decimal n) = omega arith in
    rw (padding, append-nil (decimal n)) refl

zeros_digits : (k : ℕ) (ds : List ℕ) → list_all is_ascii_digit (replicate k 48 ++ ds) ≡ list_all is_ascii_digit ds
zeros_digits zero ds = refl
zeros_digits (suc k) ds = zeros_digits k ds

zeros_number : (k : ℕ) (ds : List ℕ) → number_of (replicate k 48 ++ ds) ≡ number_of ds
zeros_number zero ds = refl
zeros_number (suc k) ds = zeros_number k ds

zeros_length : (k : ℕ) (ds : List ℕ) → length (replicate k 48 ++ ds) ≡ k + length ds
zeros_length zero ds = omega arith
zeros_length (suc k) ds = omega (arith, zeros_length k ds)

padded_length : (width n : ℕ) → 0 < width → n < 10 ^ width → n < 2 ^ 64 → length (padded width n) ≡ width
padded_length width n some fits small =
    ap length (zeros_before width n)
    ∙ omega (arith, zeros_length (width - length (decimal n)) (decimal n), length-decimal-le width n some fits small)

padded_digits : (width n : ℕ) → 0 < width → n < 10 ^ width → n < 2 ^ 64 → are_digits width (padded width n) ≡ true
padded_digits width n some fits small =
    and_both _ _ (eq-eqb _ width (padded_length width n some fits small))
    (ap (list_all is_ascii_digit) (zeros_before width n)
    ∙ zeros_digits (width - length (decimal n)) (decimal n)
    ∙ digits_decimal own n small)

padded_number : (width n : ℕ) → n < 2 ^ 64 → number_of (padded width n) ≡ n
padded_number width n small =
    ap number_of (zeros_before width n)
    ∙ zeros_number (width - length (decimal n)) (decimal n)
    ∙ digits_value-decimal own n small

date_written : (year month day days : ℕ) → year ≤ 9999 → month ≤ 12 → day ≤ 31 → day_of year month day ≡ Some days
    → IsDate (date_text year month day) days
date_written year month day days y m d h =
    let t = tested (has_day year month day) (Some (day_count year month day)) days h in
    let year_is : number_of (padded 4 year) ≡ year = padded_number 4 year (omega arith) in
    let month_is : number_of (padded 2 month) ≡ month = padded_number 2 month (omega arith) in
    let day_is : number_of (padded 2 day) ≡ day = padded_number 2 day (omega arith) in
    record {
      year = padded 4 year;
      month = padded 2 month;
      day = padded 2 day;
      text_is = refl;
      year_digits = padded_digits 4 year (omega arith) (omega arith) (omega arith);
      month_digits = padded_digits 2 month (omega arith) (omega arith) (omega arith);
      day_digits = padded_digits 2 day (omega arith) (omega arith) (omega arith);
      there = rw (year_is, month_is, day_is) t.0;
      days_are = rw (year_is, month_is, day_is) (some_is _ days t.1);
    }

le_true : (m n : ℕ) → m ≤ n → nat_le m n ≡ true
le_true m n h = grind (arith, nat_tests)

clock_shown : (hour minute second : ℕ) → hour ≤ 23 → minute ≤ 59 → second ≤ 59 → is_clock hour minute second ≡ true
clock_shown hour minute second h m s = and_both _ _ (and_both _ _ (le_true hour 23 h) (le_true minute 59 m)) (le_true second 59 s)

clock_written : (hour minute second : ℕ) → hour ≤ 23 → minute ≤ 59 → second ≤ 59
    → IsTime (clock_text hour minute second) (clock_milliseconds hour minute second)
clock_written hour minute second h m s =
    let hour_is : number_of (padded 2 hour) ≡ hour = padded_number 2 hour (omega arith) in
    let minute_is : number_of (padded 2 minute) ≡ minute = padded_number 2 minute (omega arith) in
    let second_is : number_of (padded 2 second) ≡ second = padded_number 2 second (omega arith) in
    record {
      hour = padded 2 hour;
      minute = padded 2 minute;
      second = padded 2 second;
      text_is = refl;
      hour_digits = padded_digits 2 hour (omega arith) (omega arith) (omega arith);
      minute_digits = padded_digits 2 minute (omega arith) (omega arith) (omega arith);
      second_digits = padded_digits 2 second (omega arith) (omega arith) (omega arith);
      there = rw (hour_is, minute_is, second_is) (clock_shown hour minute second h m s);
      milliseconds_are = rw (hour_is, minute_is, second_is) refl;
    }

-- the milliseconds of the hours, minutes and whole seconds of so many milliseconds
abbrev whole_seconds : ℕ → ℕ
whole_seconds n = clock_milliseconds (n / 3600000) (n / 60000 % 60) (n / 1000 % 60)

time_written : (n : ℕ) → n < 86400000 → IsTime (time_text n) (whole_seconds n)
time_written n h = clock_written (n / 3600000) (n / 60000 % 60) (n / 1000 % 60) (omega arith) (omega arith) (omega arith)

fraction_written : (n : ℕ) → IsFraction (fraction_text n) (n % 1000)
fraction_written n =
    let part = n % 1000 in
    inr (
      padded 3 part,
      refl,
      padded_digits 3 part (omega arith) (omega arith) (omega arith),
      sym (padded_number 3 part (omega arith)),
    )

parts_whole : (n : ℕ) → whole_seconds n + n % 1000 ≡ n
parts_whole n = omega arith

no_offset : (z : ℤ) → z ≡ z -ℤ pos 0
no_offset z = omega (arith, ints)

pub moment_written : (year month day n days : ℕ) → year ≤ 9999 → month ≤ 12 → day ≤ 31 → n < 86400000
    → day_of year month day ≡ Some days → datetime_of (moment_text year month day n) ≡ Some (since_1970 (days * 86400000 + n))
moment_written year month day n days y m d h k =
    datetime_found _ _ (inr (record {
      date = date_text year month day;
      time = time_text n;
      fraction = fraction_text n;
      zone = 90 ∷ [];
      days = days;
      seconds = whole_seconds n;
      part = n % 1000;
      offset = pos 0;
      text_is = refl;
      date_is = date_written year month day days y m d k;
      time_is = time_written n h;
      fraction_is = fraction_written n;
      zone_is = inl (refl, refl);
      value = ap since_1970 (omega (arith, parts_whole n)) ∙ no_offset _;
    }))

-- after 23 bytes comes `Z` alone
pub form_written : (year month day n days : ℕ) → year ≤ 9999 → month ≤ 12 → day ≤ 31 → n < 86400000
    → day_of year month day ≡ Some days → drop 23 (moment_text year month day n) ≡ 90 ∷ []
form_written year month day n days y m d h k =
    let date = date_text year month day in
    let time = time_text n in
    let fraction = fraction_text n in
    let date_ten = date_length date days (date_written year month day days y m d k) in
    let time_nine = time_length time (whole_seconds n) (time_written n h) in
    let part_three = padded_length 3 (n % 1000) (omega arith) (omega arith) (omega arith) in
    ap (drop 23) (sym (append_assoc date time (fraction ++ 90 ∷ [])) ∙ sym (append_assoc (date ++ time) fraction (90 ∷ [])))
    ∙ drop_first ((date ++ time) ++ fraction) (90 ∷ []) 23 (omega (arith, length-append (date ++ time) fraction, length-append date time))

-- what is known of bytes is known of the text of a result that has them
pub text_known : {A E : Type 0} (view : A → List ℕ) (P : List ℕ → Type 0) (text : List ℕ) (r : Result A E) → P text
    → IfOk r (λ s. view s ≡ text) → IfOk r (λ s. P (view s))
text_known view P text (Ok s) k h = subst P (sym h) k
text_known view P text (Err e) k h = tt
