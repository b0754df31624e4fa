-- The milliseconds of a duration as a function of its text.
use Rattle.std.specs.Prelude.{ℕ, ◌+◌, ◌*◌, ℤ, Bool, true, false, not, ◌&&◌, List, [], ◌∷◌, take, drop, Option, Some, None, if◌then◌else◌, nat_lt, bytes_eq}
use Rattle.std.specs.Bool.{◌==◌}
use Rattle.std.specs.List.{position_or_len}
use Rattle.std.specs.Char.{is_ascii_digit}
use Rattle.cedar_ext_time.specs.Digits.{number_of}
use Rattle.cedar_ext_time.specs.Durations.{signed}
use Rattle.cedar_ext_time.specs.Longs.{long_of}
use Rattle.cedar_ext_time.specs.Units.{name_of, milliseconds_of, units}
use Rattle.cedar_ext_time.specs.declared.unit.Unit.{Unit}

-- How many digits a text begins with: the place of the first byte that is not a digit (own).
abbrev pub digits_len : List ℕ → ℕ
digits_len text = position_or_len (λ b. not (is_ascii_digit b)) text

-- How many bytes a text begins with that are not digits: the place of the first digit (own).
abbrev pub letters_len : List ℕ → ℕ
letters_len text = position_or_len is_ascii_digit text

-- Whether a text begins with digits, and what follows them up to the next digit is the name of the unit (Cedar RFC 80).
abbrev pub begins_with : Unit → List ℕ → Bool
begins_with unit text =
    let after = drop (digits_len text) text in
    nat_lt 0 (digits_len text) && bytes_eq (take (letters_len after) after) (name_of unit)

-- What follows the digits and the name at the beginning of a text (own).
abbrev pub after_part : List ℕ → List ℕ
after_part text = let after = drop (digits_len text) text in drop (letters_len after) after

-- A number of milliseconds more, where there is a number (own).
abbrev pub plus : ℕ → Option ℕ → Option ℕ
plus n None = None
plus n (Some m) = Some (n + m)

-- The milliseconds that a text writes in these units, each of which is left out or written in its place (Cedar RFC 80).
unfoldable pub sum_of : List Unit → List ℕ → Option ℕ
sum_of [] [] = Some 0
sum_of [] (b ∷ bs) = None
sum_of (unit ∷ later) text =
    if begins_with unit text
    then plus (number_of (take (digits_len text) text) * milliseconds_of unit) (sum_of later (after_part text))
    else sum_of later text

-- The number with its sign, where there is one and it has 64 bits (own).
abbrev pub signed_long : Bool → Option ℕ → Option ℤ
signed_long negative None = None
signed_long negative (Some n) = long_of (signed negative n)

-- The milliseconds of a text without sign, none where it is empty (Cedar RFC 80).
abbrev pub body_of : Bool → List ℕ → Option ℤ
body_of negative [] = None
body_of negative (b ∷ bs) = signed_long negative (sum_of units (b ∷ bs))

-- The milliseconds of a duration's text, none for another text. `Duration::read` ties it to `IsDuration` (Cedar RFC 80).
abbrev pub duration_of : List ℕ → Option ℤ
duration_of [] = None
duration_of (b ∷ bs) = if b == 45 then body_of true bs else body_of false (b ∷ bs)
