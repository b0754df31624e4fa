-- Tokens beside the letters of those that are strings, as the code keeps them.
use Rattle.std.specs.Prelude.{◌≡◌, Bool, true, false, if◌then◌else◌, List, [], ◌∷◌}
use Rattle.cedar_text.specs.declared.letter.Letter.{Letter}
use Rattle.cedar_text.specs.declared.token_kind.TokenKind.{TokenKind}
use Rattle.cedar_text.specs.declared.token_kind.TokenKind.TheVariants as k
use Rattle.cedar_text.specs.Letters.{IsSpelled}
use Rattle.cedar_text.specs.Lexeme.{Lexeme, Lexemes}
use Rattle.cedar_parser_tokens.specs.Marks.{Mark, Marks, mark_of}
use Rattle.cedar_parser_tokens.specs.Reading.{same_kind}

abbrev pub is_string : TokenKind → Bool
is_string kind = same_kind kind k.String

abbrev pub first_letters : List (List Letter) → List Letter
first_letters [] = []
first_letters (l ∷ ls) = l

abbrev pub other_letters : List (List Letter) → List (List Letter)
other_letters [] = []
other_letters (l ∷ ls) = ls

-- the letters of a token of this kind, where these are those of the strings from it on
abbrev pub letters_at : TokenKind → List (List Letter) → List Letter
letters_at kind ls = if is_string kind then first_letters ls else []

-- those of the strings after it
abbrev pub strings_behind : TokenKind → List (List Letter) → List (List Letter)
strings_behind kind ls = if is_string kind then other_letters ls else ls

abbrev pub first_mark : Lexeme → List (List Letter) → Mark
first_mark t ls = mark_of t (letters_at t.kind ls)

-- the tokens with their letters
abbrev pub marks_with : Lexemes → List (List Letter) → Marks
marks_with [] ls = []
marks_with (t ∷ ts) ls = first_mark t ls ∷ marks_with ts (strings_behind t.kind ls)

-- these are the letters of the strings among the tokens
pub data Spells : Lexemes → List (List Letter) → Type 0 where
  none : Spells [] []
  string : {t : Lexeme} {ts : Lexemes} {l : List Letter} {ls : List (List Letter)} → is_string t.kind ≡ true → t.kind ≡ k.String → IsSpelled t.text l → Spells ts ls → Spells (t ∷ ts) (l ∷ ls)
  other : {t : Lexeme} {ts : Lexemes} {ls : List (List Letter)} → is_string t.kind ≡ false → Spells ts ls → Spells (t ∷ ts) ls
