-- Names of entity types: paths of identifiers (Cedar language reference, policy grammar: IDENT, Path).
use Rattle.std.specs.Prelude.{◌≡◌, ◌++◌, ℕ, Bool, false, not, ◌||◌, ◌&&◌, List, [], ◌∷◌, IsTrue, codes, nat_eq, if◌then◌else◌}
use Rattle.std.specs.Bool.{◌==◌}
use Rattle.std.specs.Char.{is_ascii_alphabetic, is_ascii_digit}
use Rattle.std.specs.List.{list_all, list_any}
use Rattle.std.specs.Str.{bytes_eq}

-- A letter of ASCII or `_` (Cedar language reference, policy grammar: IDENT).
abbrev pub is_word_start : ℕ → Bool
is_word_start b = is_ascii_alphabetic b || (b == 95)

-- A letter of ASCII, `_` or a digit (Cedar language reference, policy grammar: IDENT).
abbrev pub is_word_byte : ℕ → Bool
is_word_byte b = is_word_start b || is_ascii_digit b

-- A letter or `_`, then letters, digits and `_` (Cedar language reference, policy grammar: IDENT).
abbrev pub is_word : List ℕ → Bool
is_word [] = false
is_word (b ∷ bs) = is_word_start b && list_all is_word_byte bs

-- The words that are not identifiers (Cedar language reference, policy grammar: IDENT).
abbrev pub reserved_words : List (List ℕ)
reserved_words =
    codes "true" ∷ codes "false" ∷ codes "if" ∷ codes "then" ∷ codes "else" ∷ codes "in" ∷ codes "is" ∷ codes "like" ∷ codes "has" ∷ []

-- Whether a word is one of these (Cedar language reference, policy grammar: IDENT).
abbrev pub is_reserved : List ℕ → Bool
is_reserved word = list_any (λ other. bytes_eq other word) reserved_words

-- A word that is not reserved (Cedar language reference, policy grammar: IDENT).
abbrev pub is_identifier : List ℕ → Bool
is_identifier word = is_word word && not (is_reserved word)

-- Words with `::` between them (Cedar language reference, policy grammar: Path).
abbrev pub joined : List ℕ → List (List ℕ) → List ℕ
joined word [] = word
joined word (next ∷ words) = word ++ (codes "::" ++ joined next words)

-- The text is one or more identifiers with `::` between them (Cedar language reference, policy grammar: Path).
pub record IsName (text : List ℕ) : Type 0 where
  pub first : List ℕ
  pub others : List (List ℕ)
  pub identifiers : IsTrue (list_all is_identifier (first ∷ others))
  pub text_is : text ≡ joined first others

-- The words of a text between its `::`, where a beginning of the first word comes before the text (Cedar language reference,
-- policy grammar: Path).
abbrev pub words_from : List ℕ → List ℕ → List (List ℕ)
words_from word [] = word ∷ []
words_from word (b ∷ []) = (word ++ b ∷ []) ∷ []
words_from word (b ∷ c ∷ bs) = if nat_eq b 58 && nat_eq c 58 then word ∷ words_from [] bs else words_from (word ++ b ∷ []) (c ∷ bs)

-- Whether the text is one or more identifiers with `::` between them: the test of `IsName`; `is_name_tells_names` ties
-- the two (Cedar language reference, policy grammar: Path).
unfoldable pub is_name : List ℕ → Bool
is_name text = list_all is_identifier (words_from [] text)
