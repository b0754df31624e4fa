-- The values of digits (Cedar language reference, grammar: INT).
use Rattle.std.specs.Prelude.{ℕ, ◌+◌, ◌*◌, ◌-◌, min, if◌then◌else◌, List, [], ◌∷◌}
use Rattle.std.specs.Char.{digit_value}
use Rattle.cedar_text.specs.Bytes.{is_digit, first}

-- The number that begins with n and goes on with these decimal digits (mathematics).
abbrev pub decimal_from : ℕ → List ℕ → ℕ
decimal_from n [] = n
decimal_from n (b ∷ bs) = decimal_from (10 * n + (b - 48)) bs

-- The number that begins with n and goes on with these hexadecimal digits (mathematics).
abbrev pub hexadecimal_from : ℕ → List ℕ → ℕ
hexadecimal_from n [] = n
hexadecimal_from n (b ∷ bs) = hexadecimal_from (16 * n + digit_value b) bs

-- The largest number that a token may be: the least long, without its sign (Cedar language reference, data types: Long).
abbrev pub max_number : ℕ
max_number = 9223372036854775808

-- The number of a token of this text: the value of its digits, at most one more than the largest, and 0 where it does not begin
-- with a digit (own).
abbrev pub number_in : List ℕ → ℕ
number_in text = if is_digit (first text) then min (decimal_from 0 text) (max_number + 1) else 0
