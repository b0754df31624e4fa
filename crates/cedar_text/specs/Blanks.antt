-- What may be between tokens: white space and comments (Cedar language reference, grammar: WHITESPACE, COMMENT).
use Rattle.std.specs.Prelude.{◌≡◌, ℕ, ◌≤◌, true, List, ◌∷◌, encode_utf8}
use Rattle.std.specs.List.{list_all}
use Rattle.cedar_text.specs.Bytes.{goes_on_line, Stops}

-- A character is white space where it has Unicode's property White_Space (Unicode, PropList).
pub data IsWhite : ℕ → Type 0 where
  control : (c : ℕ) → 9 ≤ c → c ≤ 13 → IsWhite c
  space : IsWhite 32
  next_line : IsWhite 0x85
  no_break_space : IsWhite 0xA0
  ogham_space : IsWhite 0x1680
  typographic : (c : ℕ) → 0x2000 ≤ c → c ≤ 0x200A → IsWhite c
  line_separator : IsWhite 0x2028
  paragraph_separator : IsWhite 0x2029
  narrow_space : IsWhite 0x202F
  mathematical_space : IsWhite 0x205F
  ideographic_space : IsWhite 0x3000

-- The text begins with a blank, which is one white space, or a comment from `//` (47 is the slash) to before the next LF or CR
-- or to the end, and goes on with this rest (Cedar language reference, grammar: WHITESPACE, COMMENT).
pub data IsBlank : List ℕ → List ℕ → Type 0 where
  white : {c : ℕ} {rest : List ℕ} → IsWhite c → IsBlank (encode_utf8 c) rest
  comment : {body rest : List ℕ} → list_all goes_on_line body ≡ true → Stops goes_on_line rest → IsBlank (47 ∷ 47 ∷ body) rest
