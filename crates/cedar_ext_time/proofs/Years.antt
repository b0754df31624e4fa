-- The days before a year in a closed form.
use Rattle.std.proofs.Common.{◌≡◌, ◌≢◌, ℕ, zero, suc, ◌+◌, ◌*◌, ◌/◌, ◌%◌, ◌<◌, ◌≤◌, ◌&&◌, ◌||◌, Bool, true, false, not, if◌then◌else◌, refl, arith, ap, add-one}
use Rattle.std.specs.Bool.{◌==◌}
use Rattle.std.proofs.lemmas.Bool.Decides.{nat_tests}
use Rattle.cedar_ext_time.specs.Calendar.{is_leap, days_before_year, days_before_month, days_of_year, days_of_month}

zero_if : (n : ℕ) → (n == 0) ≡ true → n ≡ 0
zero_if n h = grind (arith, nat_tests)

above_if : (n : ℕ) → (n == 0) ≡ false → 0 < n
above_if n h = grind (arith, nat_tests)

-- one year more, with a divisor of the leap rule
up_4 : (y : ℕ) → y % 4 ≡ 0 → (suc y + 3) / 4 ≡ (y + 3) / 4 + 1
up_4 y h = omega arith

same_4 : (y : ℕ) → 0 < y % 4 → (suc y + 3) / 4 ≡ (y + 3) / 4
same_4 y h = omega arith

up_100 : (y : ℕ) → y % 100 ≡ 0 → (suc y + 99) / 100 ≡ (y + 99) / 100 + 1
up_100 y h = omega arith

same_100 : (y : ℕ) → 0 < y % 100 → (suc y + 99) / 100 ≡ (y + 99) / 100
same_100 y h = omega arith

up_400 : (y : ℕ) → y % 400 ≡ 0 → (suc y + 399) / 400 ≡ (y + 399) / 400 + 1
up_400 y h = omega arith

same_400 : (y : ℕ) → 0 < y % 400 → (suc y + 399) / 400 ≡ (y + 399) / 400
same_400 y h = omega arith

four_in_100 : (y : ℕ) → y % 100 ≡ 0 → y % 4 ≡ 0
four_in_100 y h = omega arith

hundred_in_400 : (y : ℕ) → y % 400 ≡ 0 → y % 100 ≡ 0
hundred_in_400 y h = omega arith

year_more : (y : ℕ) → days_of_year y + (suc y + 99) / 100 + (y + 3) / 4 + (y + 399) / 400 ≡ 365 + (y + 99) / 100 + (suc y + 3) / 4 + (suc y + 399) / 400
year_more y = at (y % 4 == 0) (y % 100 == 0) (y % 400 == 0) refl refl refl
  where
    at : (a b c : Bool) → (y % 4 == 0) ≡ a → (y % 100 == 0) ≡ b → (y % 400 == 0) ≡ c
        → (if (a && not b) || c then 366 else 365) + (suc y + 99) / 100 + (y + 3) / 4 + (y + 399) / 400 ≡ 365 + (y + 99) / 100 + (suc y + 3) / 4 + (suc y + 399) / 400
    at true true true f h q = omega (arith, up_4 y (zero_if _ f), up_100 y (zero_if _ h), up_400 y (zero_if _ q))
    at true true false f h q = omega (arith, up_4 y (zero_if _ f), up_100 y (zero_if _ h), same_400 y (above_if _ q))
    at true false true f h q = absurd (omega (arith, hundred_in_400 y (zero_if _ q), above_if _ h))
    at true false false f h q = omega (arith, up_4 y (zero_if _ f), same_100 y (above_if _ h), same_400 y (above_if _ q))
    at false true c f h q = absurd (omega (arith, four_in_100 y (zero_if _ h), above_if _ f))
    at false false true f h q = absurd (omega (arith, hundred_in_400 y (zero_if _ q), above_if _ h))
    at false false false f h q = omega (arith, same_4 y (above_if _ f), same_100 y (above_if _ h), same_400 y (above_if _ q))

pub years_closed : (y : ℕ) → days_before_year y + (y + 99) / 100 ≡ y * 365 + (y + 3) / 4 + (y + 399) / 400
unfolding days_before_year
years_closed zero = refl
years_closed (suc y) = omega (arith, years_closed y, year_more y)

pub years_1970 : days_before_year 1970 ≡ 719528
years_1970 = omega (arith, years_closed 1970)

pub month_more : (y m : ℕ) → days_before_month y (m + 1) ≡ days_before_month y m + days_of_month y m
unfolding days_before_month
month_more y m = ap (days_before_month y) (add-one m)

pub month_zero : (y : ℕ) → days_before_month y 0 ≡ 0
unfolding days_before_month
month_zero y = refl

-- a year that begins before the year 10000
pub year_known : (y : ℕ) → days_before_year y < 3652425 → y ≤ 9999
year_known y h = omega (arith, years_closed y)

-- no year has more than 366 days
pub years_short : (y : ℕ) → days_before_year y ≤ 366 * y
years_short y = omega (arith, years_closed y)

-- the twelve months are the year
pub months_of_year : (y : ℕ) → days_before_month y 13 ≡ days_of_year y
unfolding days_before_month
months_of_year y = by (is_leap y)
  where
    by : (leap : Bool) → 31 + (if leap then 29 else 28) + 31 + 30 + 31 + 30 + 31 + 31 + 30 + 31 + 30 + 31 ≡ (if leap then 366 else 365)
    by true = refl
    by false = refl

-- a month before the end of the year is not the last one
pub not_last : (y m : ℕ) → days_before_month y (m + 1) < days_of_year y → m ≢ 12
not_last y m h = λ e. omega (arith, ap (λ (n : ℕ). days_before_month y (n + 1)) e, months_of_year y)

pub year_next : (y : ℕ) → days_before_year (y + 1) ≡ days_before_year y + days_of_year y
unfolding days_before_year
year_next y = ap days_before_year (add-one y)
