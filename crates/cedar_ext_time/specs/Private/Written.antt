-- The text of a datetime in UTC, as a format writes it.
use Rattle.std.specs.Prelude.{ℕ, ◌-◌, ◌/◌, ◌%◌, ◌^◌, false, List, [], ◌∷◌, ◌++◌}
use Rattle.std.specs.Fmt.{decimal, padded_integral, format_spec}

-- a number with zeros before it, up to a width
abbrev pub padded : ℕ → ℕ → List ℕ
padded width n = padded_integral (format_spec 32 0 4 width (2 ^ 64 - 1)) false [] (decimal n)

abbrev pub date_text : ℕ → ℕ → ℕ → List ℕ
date_text year month day = padded 4 year ++ 45 ∷ (padded 2 month ++ 45 ∷ padded 2 day)

abbrev pub clock_text : ℕ → ℕ → ℕ → List ℕ
clock_text hour minute second = 84 ∷ (padded 2 hour ++ 58 ∷ (padded 2 minute ++ 58 ∷ padded 2 second))

-- the time of day of so many milliseconds, without their fraction of a second
abbrev pub time_text : ℕ → List ℕ
time_text milliseconds = clock_text (milliseconds / 3600000) (milliseconds / 60000 % 60) (milliseconds / 1000 % 60)

abbrev pub fraction_text : ℕ → List ℕ
fraction_text milliseconds = 46 ∷ padded 3 (milliseconds % 1000)

abbrev pub moment_text : ℕ → ℕ → ℕ → ℕ → List ℕ
moment_text year month day milliseconds = date_text year month day ++ (time_text milliseconds ++ (fraction_text milliseconds ++ 90 ∷ []))
