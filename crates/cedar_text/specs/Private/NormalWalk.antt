-- What a walk over tokens has found, and what is left to find.
use Rattle.std.specs.Prelude.{◌≡◌, ◌∷◌, ◌++◌, Option}
use Rattle.cedar_text.specs.declared.normal.Walk.{Walk}
use Rattle.cedar_text.specs.declared.token_kind.TokenKind.{TokenKind}
use Rattle.cedar_text.specs.Lexeme.{Lexeme, Lexemes, lexemes}
use Rattle.cedar_text.specs.Normal.{first_kind, normal_from}

-- all normal tokens, where these tokens are left
abbrev pub all_normal : Walk → Lexemes → Lexemes
all_normal w ts = lexemes w.found.items ++ normal_from w.before w.lists.items ts

-- the walk goes past this token, whatever comes after it
abbrev pub GoesOn : Walk → Walk → Lexeme → Option TokenKind → Type 0
GoesOn old new t next = (ts : Lexemes) → first_kind ts ≡ next → all_normal new ts ≡ all_normal old (t ∷ ts)
