-- Why a text has no tokens: the faults, each at the front of what is left, their numbers and their places; of the bytes, 34 is
-- the quote, 92 the backslash (Cedar language reference, grammar; own in the numbers).
use Rattle.std.specs.Prelude.{◌≡◌, ◌≢◌, ℕ, ◌<◌, true, false, List, [], ◌∷◌, ◌++◌, Option, Some, None, Result, Ok, Err}
use Rattle.std.specs.List.{list_all}
use Rattle.std.specs.Global.{Vec}
use Rattle.cedar_text.specs.declared.token.Token.{Token}
use Rattle.cedar_text.specs.declared.token_kind.TokenKind.{TokenKind}
use Rattle.cedar_text.specs.declared.letter.Letter.{Letter}
use Rattle.cedar_text.specs.declared.text_fault.TextFault.{TextFault}
use Rattle.cedar_text.specs.declared.text_fault.TextFault.TheVariants as f
use Rattle.cedar_text.specs.Lexeme.{Lexemes, lexemes}
use Rattle.cedar_text.specs.Bytes.{is_digit, first, Stops}
use Rattle.cedar_text.specs.Blanks.{IsBlank}
use Rattle.cedar_text.specs.Numbers.{decimal_from, max_number}
use Rattle.cedar_text.specs.Strings.{IsString, IsEscape, IsOpen}
use Rattle.cedar_text.specs.Tokens.{IsToken, IsCut}

-- The number of a refusal of the lexer, as the program prints it (own).
abbrev pub number_of : TextFault → ℕ
number_of f.OutOfMemory = 1
number_of (f.BadCharacter at) = 101
number_of (f.UnclosedString at) = 102
number_of (f.BadEscape at) = 103
number_of (f.NumberTooLarge at) = 104

-- The byte at which a refusal is reported, if it has a place (own).
abbrev pub offset_of : TextFault → Option ℕ
offset_of f.OutOfMemory = None
offset_of (f.BadCharacter at) = Some at
offset_of (f.UnclosedString at) = Some at
offset_of (f.BadEscape at) = Some at
offset_of (f.NumberTooLarge at) = Some at

-- A text that is not empty begins with a bad character where no blank, token, quote or digit begins (Cedar language reference,
-- grammar).
pub record IsBadCharacter (rest : List ℕ) : Type 0 where
  pub some : rest ≢ []
  pub no_blank : (front more : List ℕ) → rest ≡ front ++ more → IsBlank front more → ⊥
  pub no_token : (kind : TokenKind) (n : ℕ) (front more : List ℕ) → rest ≡ front ++ more → IsToken kind n front more → ⊥
  pub no_quote : first rest ≢ 34
  pub no_digit : is_digit (first rest) ≡ false

-- The text begins with a quote that no other quote closes (Cedar language reference, grammar: STR).
pub data IsUnclosed : List ℕ → Type 0 where
  unclosed : {bs : List ℕ} → IsOpen bs → IsUnclosed (34 ∷ bs)

-- The text begins with a quote, then what may follow one, and then a backslash that begins no escape (Cedar language reference,
-- grammar: STR).
pub data IsBadEscape : List ℕ → Type 0 where
  bad : (bs more : List ℕ) → IsString bs → ((front rest : List ℕ) (letter : Letter) → more ≡ front ++ rest → IsEscape front letter → ⊥) → IsBadEscape (34 ∷ bs ++ 92 ∷ more)

-- The text begins with the digits of a number above the largest that a token may be (Cedar language reference, grammar: INT).
pub data IsTooLarge : List ℕ → Type 0 where
  large : (b : ℕ) (bs more : List ℕ) → is_digit b ≡ true → list_all is_digit bs ≡ true → Stops is_digit more → max_number < decimal_from 0 (b ∷ bs)
      → IsTooLarge ((b ∷ bs) ++ more)

-- A front of the text is cut into tokens, and what is left has the fault (own).
abbrev pub Meets : (List ℕ → Type 0) → List ℕ → Type 0
Meets fault source = (ts : Lexemes) × (rest : List ℕ) × IsCut 0 source ts rest × fault rest

-- The text has the fault of this refusal after some tokens. A refusal for memory says nothing about the text (own).
abbrev pub HasFault : List ℕ → TextFault → Type 0
HasFault source f.OutOfMemory = Unit {0}
HasFault source (f.BadCharacter at) = Meets IsBadCharacter source
HasFault source (f.UnclosedString at) = Meets IsUnclosed source
HasFault source (f.BadEscape at) = Meets IsBadEscape source
HasFault source (f.NumberTooLarge at) = Meets IsTooLarge source

-- The answer is these tokens, or memory ran out (own).
abbrev pub HasTokens : Lexemes → Result (Vec Token) TextFault → Type 0
HasTokens ts (Ok v) = lexemes v.items ≡ ts
HasTokens ts (Err f.OutOfMemory) = Unit {0}
HasTokens ts (Err (f.BadCharacter at)) = ⊥
HasTokens ts (Err (f.UnclosedString at)) = ⊥
HasTokens ts (Err (f.BadEscape at)) = ⊥
HasTokens ts (Err (f.NumberTooLarge at)) = ⊥
