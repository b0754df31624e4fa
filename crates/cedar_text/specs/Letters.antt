-- What a string token denotes; of the bytes, 34 is the quote, 92 the backslash, 42 the star (Cedar language reference, grammar:
-- STR; operators: like).
use Rattle.std.specs.Prelude.{◌≡◌, ◌≢◌, ℕ, Bool, true, false, if◌then◌else◌, List, [], ◌∷◌, ◌++◌, Option, Some, None, Result, Ok, Err, encode_utf8}
use Rattle.std.specs.Char.{IsScalar}
use Rattle.std.specs.Global.{Vec}
use Rattle.std.specs.List.{list_all}
use Rattle.cedar_text.specs.declared.letter.Letter.{Letter}
use Rattle.cedar_text.specs.declared.letter.Letter.TheVariants.{Character, Star, EscapedStar}
use Rattle.cedar_text.specs.declared.text_fault.TextFault.{TextFault}
use Rattle.cedar_text.specs.declared.text_fault.TextFault.TheVariants as f
use Rattle.cedar_text.specs.Strings.{IsEscape, IsString}

-- A string writes this letter with these bytes of UTF-8: a character as it is, a bare star, or an escape (Cedar language
-- reference, grammar: STR).
pub data IsWritten : List ℕ → Letter → Type 0 where
  plain : {c : ℕ} → IsScalar c → c ≢ 34 → c ≢ 92 → c ≢ 42 → IsWritten (encode_utf8 c) (Character c)
  bare_star : IsWritten (42 ∷ []) Star
  escaped : {front : List ℕ} {letter : Letter} → IsEscape front letter → IsWritten (92 ∷ front) letter

-- A string writes these letters, one after another, with these bytes (Cedar language reference, grammar: STR).
pub data AreWritten : List ℕ → List Letter → Type 0 where
  nothing : AreWritten [] []
  more : {front rest : List ℕ} {letter : Letter} {letters : List Letter} → IsWritten front letter → AreWritten rest letters → AreWritten (front ++ rest) (letter ∷ letters)

-- The text, which has quotes round it, writes these letters (Cedar language reference, grammar: STR).
abbrev pub IsSpelled : List ℕ → List Letter → Type 0
IsSpelled text letters = (inner : List ℕ) × (text ≡ 34 ∷ inner ++ 34 ∷ []) × AreWritten inner letters

-- Whether the letter may be in a string that is not a pattern: each but the escape `\*` (Cedar language reference, operators:
-- like).
abbrev pub is_plain : Letter → Bool
is_plain (Character c) = true
is_plain Star = true
is_plain EscapedStar = false

-- The character that a letter denotes in a text: that of a star is the star (Cedar language reference, grammar: STR).
abbrev pub character_of : Letter → ℕ
character_of (Character c) = c
character_of Star = 42
character_of EscapedStar = 42

-- The characters of letters in UTF-8 (Cedar language reference, grammar: STR).
abbrev pub utf8_of : List Letter → List ℕ
utf8_of [] = []
utf8_of (letter ∷ letters) = encode_utf8 (character_of letter) ++ utf8_of letters

-- The text in UTF-8 that the letters of a string denote: letters with an escape `\*` denote none (Cedar language reference,
-- operators: like).
abbrev pub plain_text_of : List Letter → Option (List ℕ)
plain_text_of letters = if list_all is_plain letters then Some (utf8_of letters) else None

-- The answer is these letters, or memory ran out (own).
abbrev pub HasLetters : List Letter → Result (Vec Letter) TextFault → Type 0
HasLetters letters (Ok v) = v.items ≡ letters
HasLetters letters (Err f.OutOfMemory) = Unit {0}
HasLetters letters (Err (f.BadCharacter at)) = ⊥
HasLetters letters (Err (f.UnclosedString at)) = ⊥
HasLetters letters (Err (f.BadEscape at)) = ⊥
HasLetters letters (Err (f.NumberTooLarge at)) = ⊥

-- The text is this with a quote before and after it (Cedar language reference, grammar: STR).
abbrev pub HasQuotes : List ℕ → List ℕ → Type 0
HasQuotes text inner = text ≡ 34 ∷ inner ++ 34 ∷ []

-- A text writes no letters since it has no quotes round it, or since what is between them is not a string. A refusal for memory
-- says nothing about the text (own).
abbrev pub HasLettersFault : List ℕ → TextFault → Type 0
HasLettersFault text f.OutOfMemory = Unit {0}
HasLettersFault text (f.UnclosedString at) = (inner : List ℕ) → HasQuotes text inner → ⊥
HasLettersFault text (f.BadEscape at) = (inner : List ℕ) × HasQuotes text inner × (IsString inner → ⊥)
HasLettersFault text (f.BadCharacter at) = ⊥
HasLettersFault text (f.NumberTooLarge at) = ⊥
