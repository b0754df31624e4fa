-- Tokens, each string with the letters that it writes (Cedar language reference, grammar: STR).
use Rattle.std.specs.Prelude.{◌≡◌, ℕ, List, [], ◌∷◌, Option, Some, None, map}
use Rattle.std.specs.Borrow.{Bor}
use Rattle.cedar_ext.specs.declared.pattern.Element.{Element}
use Rattle.cedar_ext.specs.declared.pattern.Element.TheVariants as element
use Rattle.cedar_text.specs.declared.letter.Letter.{Letter}
use Rattle.cedar_text.specs.declared.letter.Letter.TheVariants as letter
use Rattle.cedar_text.specs.declared.token_kind.TokenKind.{TokenKind}
use Rattle.cedar_text.specs.declared.token_kind.TokenKind.TheVariants as k
use Rattle.cedar_text.specs.Letters.{IsSpelled, plain_text_of}
use Rattle.cedar_text.specs.Lexeme.{Lexeme, Lexemes, lexeme}
use Rattle.cedar_text.specs.Tokens.{AreTokens}
use Rattle.cedar_text.specs.Normal.{normal}
use Rattle.cedar_parser_tokens.specs.Content.{Content}
use Rattle.cedar_parser_tokens.specs.declared.spelled.Spelled.{Spelled}

-- A token with the letters that it writes, which a string alone has (Cedar language reference, grammar: STR).
pub record Mark : Type 0 where
  pub kind : TokenKind
  pub start : ℕ
  pub text : List ℕ
  pub number : ℕ
  pub letters : List Letter

-- A list of tokens with their letters (own).
abbrev pub Marks : Type 0
Marks = List Mark

-- The token of the lexer with these letters (own).
abbrev pub mark_of : Lexeme → List Letter → Mark
mark_of t ls = record { kind = t.kind; start = t.start; text = t.text; number = t.number; letters = ls }

-- The letters of a token of the code: those of a string, and none of another token (own).
abbrev pub letters_of : Option (Bor (List Letter)) → List Letter
letters_of (Some letters) = letters.now
letters_of None = []

-- What contracts see of a token of the code with its letters (own).
abbrev pub mark : Spelled → Mark
mark s = mark_of (lexeme s.token.now) (letters_of s.letters)

-- A string of this text writes these letters, and another token writes none (Cedar language reference, grammar: STR).
abbrev pub HasLetters : TokenKind → List ℕ → List Letter → Type 0
HasLetters k.String text ls = IsSpelled text ls
HasLetters _ text ls = ls ≡ []

-- The token with its letters is this token of the lexer, and its letters are those that it writes (own).
abbrev pub IsMark : Lexeme → Mark → Type 0
IsMark t m = (m ≡ mark_of t m.letters) × HasLetters t.kind t.text m.letters

-- The tokens with their letters are these tokens of the lexer, one by one (own).
abbrev pub AreMarks : Lexemes → Marks → Type 0
AreMarks [] [] = Unit {0}
AreMarks [] (m ∷ ms) = ⊥
AreMarks (t ∷ ts) [] = ⊥
AreMarks (t ∷ ts) (m ∷ ms) = IsMark t m × AreMarks ts ms

-- The text has these tokens with their letters (Cedar language reference, grammar).
abbrev pub IsMarked : List ℕ → Marks → Type 0
IsMarked source ms = (ts : Lexemes) × AreTokens source ts × AreMarks ts ms

-- The text has these normal tokens with their letters (Cedar language reference, grammar).
abbrev pub IsNormallyMarked : List ℕ → Marks → Type 0
IsNormallyMarked source ms = (ts : Lexemes) × AreTokens source ts × AreMarks (normal ts) ms

-- The tokens with their letters are the normal ones of others, whose tokens are those of the lexer (own).
abbrev pub AreNormal : Marks → Marks → Type 0
AreNormal ms ns = (ts : Lexemes) → AreMarks ts ms → AreMarks (normal ts) ns

-- The byte at which the first of these tokens begins, or 0 where there is none (own).
abbrev pub start_of : Marks → ℕ
start_of [] = 0
start_of (t ∷ ts) = t.start

-- ---- what letters denote

-- The text that a string with these letters denotes. With the escape `\*` it denotes none (Cedar language reference, grammar:
-- STR).
abbrev pub content_of : List Letter → Content
content_of ls = plain_text_of ls

-- The element of a pattern that a letter denotes: a bare `*` is a star, and each other letter is its character (Cedar language
-- reference, operators: like).
abbrev pub element_of : Letter → Element
element_of (letter.Character c) = element.Character c
element_of letter.Star = element.Star
element_of letter.EscapedStar = element.Character 42

-- The pattern that a string with these letters denotes (Cedar language reference, operators: like).
abbrev pub pattern_of : List Letter → List Element
pattern_of ls = map element_of ls
