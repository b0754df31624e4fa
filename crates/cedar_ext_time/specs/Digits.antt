-- Numbers in decimal digits (Cedar language reference, extension functions: datetime, duration).
use Rattle.std.specs.Prelude.{ℕ, ◌+◌, ◌-◌, ◌*◌, Bool, ◌&&◌, List, [], ◌∷◌, length, nat_lt, nat_eq}
use Rattle.std.specs.List.{list_all}
use Rattle.std.specs.Char.{is_ascii_digit}

-- One or more digits of ASCII (Cedar RFC 80).
abbrev pub is_number : List ℕ → Bool
is_number digits = nat_lt 0 (length digits) && list_all is_ascii_digit digits

-- So many digits of ASCII (Cedar RFC 80).
abbrev pub are_digits : ℕ → List ℕ → Bool
are_digits count digits = nat_eq (length digits) count && list_all is_ascii_digit digits

-- The number that decimal digits write, when they follow the digits of the number n (Cedar RFC 80).
abbrev pub number_after : ℕ → List ℕ → ℕ
number_after n [] = n
number_after n (d ∷ digits) = number_after (n * 10 + (d - 48)) digits

-- The number that decimal digits write (Cedar RFC 80).
abbrev pub number_of : List ℕ → ℕ
number_of = number_after 0
