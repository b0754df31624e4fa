-- The ten-thousandths of a decimal text as a function, from the parts around its first point.
use Rattle.std.specs.Prelude.{ℕ, ◌+◌, ◌-◌, ◌*◌, ◌^◌, ℤ, Bool, true, false, ◌&&◌, List, [], ◌∷◌, length, take, drop, Option, Some, None, if◌then◌else◌, nat_le, position}
use Rattle.std.specs.Bool.{◌==◌}
use Rattle.cedar_ext.specs.Decimals.{is_number, number_of, signed_units}

-- The ten-thousandths that the digits before and after a point write, where both are numbers, the second of at most four
-- digits, and they fit 64 bits (Cedar language reference, decimal).
abbrev pub units_at : Bool → List ℕ → List ℕ → Option ℤ
units_at negative whole fraction =
    if is_number whole && is_number fraction && nat_le (length fraction) 4
    then signed_units negative (number_of whole * 10000 + number_of fraction * 10 ^ (4 - length fraction))
    else None

-- The ten-thousandths of a text without sign that is cut at its point, none where it has no point (Cedar language
-- reference, decimal).
abbrev pub units_around : Bool → List ℕ → Option ℕ → Option ℤ
units_around negative body None = None
units_around negative body (Some point) = units_at negative (take point body) (drop (point + 1) body)

-- The ten-thousandths of a text without sign, cut at its first point (Cedar language reference, decimal).
abbrev pub units_of : Bool → List ℕ → Option ℤ
units_of negative body = units_around negative body (position (λ b. b == 46) body)

-- The number of ten-thousandths of a decimal text, none for another text. Evaluation computes with it, and
-- `decimal_of_tells_decimals` ties it to `IsDecimal` (Cedar language reference, decimal).
abbrev pub decimal_of : List ℕ → Option ℤ
decimal_of [] = None
decimal_of (b ∷ bs) = if b == 45 then units_of true bs else units_of false (b ∷ bs)
