-- Which texts are decimals, and of which number of ten-thousandths (Cedar language reference, decimal).
use Rattle.std.specs.Prelude.{◌≡◌, ◌≤◌, ◌++◌, ℕ, ◌+◌, ◌-◌, ◌*◌, ◌^◌, ℤ, pos, ◌-ℤ◌, Bool, true, false, ◌&&◌, List, [], ◌∷◌, length, Option, Some, None, if◌then◌else◌, nat_lt, nat_le}
use Rattle.std.specs.List.{list_all}
use Rattle.std.specs.Char.{is_ascii_digit}

-- One or more digits of ASCII (Cedar language reference, decimal).
abbrev pub is_number : List ℕ → Bool
is_number ds = nat_lt 0 (length ds) && list_all is_ascii_digit ds

-- The number that decimal digits write, when they follow the digits of the number n (Cedar language reference, decimal).
abbrev pub number_after : ℕ → List ℕ → ℕ
number_after n [] = n
number_after n (d ∷ ds) = number_after (n * 10 + (d - 48)) ds

-- The number that decimal digits write (Cedar language reference, decimal).
abbrev pub number_of : List ℕ → ℕ
number_of = number_after 0

-- The number with its sign, where it fits 64 bits (Cedar language reference, decimal).
abbrev pub signed_units : Bool → ℕ → Option ℤ
signed_units true n = if nat_le n 9223372036854775808 then Some (pos 0 -ℤ pos n) else None
signed_units false n = if nat_lt n 9223372036854775808 then Some (pos n) else None

-- The text is a decimal of z ten-thousandths: perhaps a `-`, then one or more digits, a point, and one
-- to four digits; and the number that these write, in ten-thousandths and with its sign, is z
-- (Cedar language reference, decimal).
pub record IsDecimal (text : List ℕ) (z : ℤ) : Type 0 where
  pub negative : Bool
  pub whole : List ℕ
  pub fraction : List ℕ
  pub text_is : text ≡ (if negative then 45 ∷ [] else []) ++ (whole ++ 46 ∷ fraction)
  pub whole_number : is_number whole ≡ true
  pub fraction_number : is_number fraction ≡ true
  pub short : length fraction ≤ 4
  pub units_are : signed_units negative (number_of whole * 10000 + number_of fraction * 10 ^ (4 - length fraction)) ≡ Some z
