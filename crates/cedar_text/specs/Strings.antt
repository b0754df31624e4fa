-- Strings. Their escapes are those of Rust's string literals, and `\*`. Of the bytes, 34 is the quote, 92 the backslash, 42 the
-- star, 120 and 117 are `x` and `u`, 123 and 125 the braces (Cedar language reference, grammar: STR; Rust reference, string
-- literals).
use Rattle.std.specs.Prelude.{◌≡◌, ◌≢◌, ℕ, ◌≤◌, true, List, [], ◌∷◌, ◌++◌, length}
use Rattle.std.specs.Char.{IsScalar}
use Rattle.std.specs.List.{list_all}
use Rattle.cedar_text.specs.declared.letter.Letter.{Letter}
use Rattle.cedar_text.specs.declared.letter.Letter.TheVariants.{Character, EscapedStar}
use Rattle.cedar_text.specs.Bytes.{is_hex}
use Rattle.cedar_text.specs.Numbers.{hexadecimal_from}

-- The byte alone is an escape after a backslash, and denotes this character (Rust reference, quote and ASCII escapes).
pub data IsShort : ℕ → ℕ → Type 0 where
  line_feed : IsShort 110 10
  carriage_return : IsShort 114 13
  tab : IsShort 116 9
  backslash : IsShort 92 92
  null : IsShort 48 0
  apostrophe : IsShort 39 39
  quote : IsShort 34 34

-- These bytes are an escape after a backslash, and denote this letter: one byte, `*`, `xHH` up to 7F, or `u{H..}` with one to
-- six digits of a character (Cedar language reference, grammar: STR; Rust reference, string literals).
pub data IsEscape : List ℕ → Letter → Type 0 where
  short : {b c : ℕ} → IsShort b c → IsEscape (b ∷ []) (Character c)
  star : IsEscape (42 ∷ []) EscapedStar
  byte : {a b : ℕ} → list_all is_hex (a ∷ b ∷ []) ≡ true → hexadecimal_from 0 (a ∷ b ∷ []) ≤ 0x7F → IsEscape (120 ∷ a ∷ b ∷ []) (Character (hexadecimal_from 0 (a ∷ b ∷ [])))
  character : (digits : List ℕ) → list_all is_hex digits ≡ true → 1 ≤ length digits → length digits ≤ 6 → IsScalar (hexadecimal_from 0 digits)
      → IsEscape (117 ∷ 123 ∷ digits ++ 125 ∷ []) (Character (hexadecimal_from 0 digits))

-- These bytes may be between quotes: characters other than `"` and `\`, and escapes (Cedar language reference, grammar: STR).
pub data IsString : List ℕ → Type 0 where
  empty : IsString []
  plain : {b : ℕ} {bs : List ℕ} → b ≢ 34 → b ≢ 92 → IsString bs → IsString (b ∷ bs)
  escape : {front bs : List ℕ} {letter : Letter} → IsEscape front letter → IsString bs → IsString (92 ∷ front ++ bs)

-- After an opening quote none of these bytes closes the string, since a byte right after a backslash closes nothing (Cedar
-- language reference, grammar: STR).
pub data IsOpen : List ℕ → Type 0 where
  nothing : IsOpen []
  lone : IsOpen (92 ∷ [])
  other : {b : ℕ} {bs : List ℕ} → b ≢ 34 → b ≢ 92 → IsOpen bs → IsOpen (b ∷ bs)
  pair : {b : ℕ} {bs : List ℕ} → IsOpen bs → IsOpen (92 ∷ b ∷ bs)
