-- Which texts are durations, and of how many milliseconds (Cedar language reference, extension functions: duration).
use Rattle.std.specs.Prelude.{◌≡◌, ◌≢◌, ◌⊎◌, ◌++◌, ℕ, ◌+◌, ◌*◌, ℤ, pos, ◌-ℤ◌, Bool, true, false, List, [], ◌∷◌, Some, if◌then◌else◌}
use Rattle.cedar_ext_time.specs.Digits.{is_number, number_of}
use Rattle.cedar_ext_time.specs.Longs.{long_of}
use Rattle.cedar_ext_time.specs.Units.{name_of, milliseconds_of, units}
use Rattle.cedar_ext_time.specs.declared.unit.Unit.{Unit}

-- The text is of n milliseconds in these units: each is left out, or it is written in its place as one or more digits and its
-- name (Cedar RFC 80).
unfoldable pub IsSum : List Unit → List ℕ → ℕ → Type 0
IsSum [] text n = (text ≡ []) × (n ≡ 0)
IsSum (unit ∷ later) text n =
    IsSum later text n
    ⊎ ((digits rest : List ℕ) × (m : ℕ) × (is_number digits ≡ true) × (text ≡ digits ++ (name_of unit ++ rest))
    × IsSum later rest m × (n ≡ number_of digits * milliseconds_of unit + m))

-- The number with its sign (Cedar RFC 80).
abbrev pub signed : Bool → ℕ → ℤ
signed true n = pos 0 -ℤ pos n
signed false n = pos n

-- The text is a duration of z milliseconds: perhaps a `-`, then numbers of days, hours, minutes, seconds and milliseconds, of
-- which at least one is written; and their sum with its sign is z, which has 64 bits (Cedar RFC 80).
pub record IsDuration (text : List ℕ) (z : ℤ) : Type 0 where
  pub negative : Bool
  pub body : List ℕ
  pub milliseconds : ℕ
  pub text_is : text ≡ (if negative then 45 ∷ [] else []) ++ body
  pub some_part : body ≢ []
  pub sum : IsSum units body milliseconds
  pub value : long_of (signed negative milliseconds) ≡ Some z
