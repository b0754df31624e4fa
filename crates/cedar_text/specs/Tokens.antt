-- The tokens of a text; of the bytes, 34 is the quote and 63 the question mark (Cedar language reference, grammar).
use Rattle.std.specs.Prelude.{◌≡◌, ℕ, ◌+◌, ◌≤◌, true, List, [], ◌∷◌, ◌++◌, length}
use Rattle.std.specs.List.{list_all}
use Rattle.cedar_text.specs.declared.token_kind.TokenKind.{TokenKind}
use Rattle.cedar_text.specs.declared.token_kind.TokenKind.TheVariants as k
use Rattle.cedar_text.specs.Lexeme.{Lexemes}
use Rattle.cedar_text.specs.Bytes.{is_letter, is_digit, is_word, Stops}
use Rattle.cedar_text.specs.Blanks.{IsBlank}
use Rattle.cedar_text.specs.Words.{word_kind}
use Rattle.cedar_text.specs.Numbers.{decimal_from, max_number}
use Rattle.cedar_text.specs.Strings.{IsString}
use Rattle.cedar_text.specs.Signs.{IsSign, IsLongest}

-- The text is a token of this kind and number, as long as the rest after it allows (Cedar language reference, grammar).
pub data IsToken : TokenKind → ℕ → List ℕ → List ℕ → Type 0 where
  word : {b : ℕ} {bs rest : List ℕ} → is_letter b ≡ true → list_all is_word bs ≡ true → Stops is_word rest → IsToken (word_kind (b ∷ bs)) 0 (b ∷ bs) rest
  number : {b : ℕ} {bs rest : List ℕ} → is_digit b ≡ true → list_all is_digit bs ≡ true → Stops is_digit rest → decimal_from 0 (b ∷ bs) ≤ max_number
      → IsToken k.Number (decimal_from 0 (b ∷ bs)) (b ∷ bs) rest
  string : {bs rest : List ℕ} → IsString bs → IsToken k.String 0 (34 ∷ bs ++ 34 ∷ []) rest
  slot : {b : ℕ} {bs rest : List ℕ} → is_letter b ≡ true → list_all is_word bs ≡ true → Stops is_word rest → IsToken k.Slot 0 (63 ∷ b ∷ bs) rest
  sign : {kind : TokenKind} {front rest : List ℕ} → IsSign front kind → IsLongest front rest → IsToken kind 0 front rest

-- From the byte `at` on, the text up to the rest is cut into these tokens, with blanks between them (Cedar language reference,
-- grammar).
pub data IsCut : ℕ → List ℕ → Lexemes → List ℕ → Type 0 where
  done : {at : ℕ} {rest : List ℕ} → IsCut at rest [] rest
  blank : {at : ℕ} {front more rest : List ℕ} {ts : Lexemes} → IsBlank front more → IsCut (at + length front) more ts rest → IsCut at (front ++ more) ts rest
  token : {at n : ℕ} {kind : TokenKind} {front more rest : List ℕ} {ts : Lexemes} → IsToken kind n front more → IsCut (at + length front) more ts rest
      → IsCut at (front ++ more) (record { kind = kind; start = at; text = front; number = n } ∷ ts) rest

-- The whole text is cut into these tokens (Cedar language reference, grammar).
abbrev pub AreTokens : List ℕ → Lexemes → Type 0
AreTokens source ts = IsCut 0 source ts []
