-- Classes of bytes. Texts are UTF-8, so a byte below 128 is always a whole character (Cedar language reference, grammar).
use Rattle.std.specs.Prelude.{◌≡◌, ℕ, Bool, false, ◌||◌, ◌&&◌, not, ◌==◌, nat_le, nat_lt, List, [], ◌∷◌, slice_index}
use Rattle.std.specs.Char.{digit_value}

-- A byte that may begin a word: A to Z, a to z and `_` (Cedar language reference, grammar: IDENT).
abbrev pub is_letter : ℕ → Bool
is_letter b = (nat_le 97 b && nat_le b 122) || (nat_le 65 b && nat_le b 90) || b == 95

-- A decimal digit: 0 to 9 (Cedar language reference, grammar: INT).
abbrev pub is_digit : ℕ → Bool
is_digit b = nat_le 48 b && nat_le b 57

-- A byte that may go on in a word: a letter or a decimal digit (Cedar language reference, grammar: IDENT).
abbrev pub is_word : ℕ → Bool
is_word b = is_letter b || is_digit b

-- A hexadecimal digit: 0 to 9, A to F, a to f (Cedar language reference, grammar: STR).
abbrev pub is_hex : ℕ → Bool
is_hex b = nat_lt (digit_value b) 16

-- A byte that ends a comment: LF or CR (Cedar language reference, grammar: COMMENT).
abbrev pub ends_line : ℕ → Bool
ends_line b = b == 10 || b == 13

-- A byte that a comment may hold: any but LF and CR (Cedar language reference, grammar: COMMENT).
abbrev pub goes_on_line : ℕ → Bool
goes_on_line b = not (ends_line b)

-- The first byte of a text, or 0 where it is empty (own).
abbrev pub first : List ℕ → ℕ
first bs = slice_index bs 0

-- The text is empty, or its first byte is not of this class (own).
abbrev pub Stops : (ℕ → Bool) → List ℕ → Type 0
Stops p [] = Unit {0}
Stops p (b ∷ bs) = p b ≡ false
