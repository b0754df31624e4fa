-- A token as contracts see it (Cedar language reference, grammar).
use Rattle.std.specs.Prelude.{ℕ, ◌+◌, List, map, length}
use Rattle.cedar_text.specs.declared.token_kind.TokenKind.{TokenKind}
use Rattle.cedar_text.specs.declared.token.Token.{Token}
use Rattle.cedar_text.specs.Numbers.{number_in}

-- A token: its kind, the byte from 0 at which it begins, its text, and the value of its digits (own).
pub record Lexeme : Type 0 where
  pub kind : TokenKind
  pub start : ℕ
  pub text : List ℕ
  pub number : ℕ

-- A list of tokens (own).
abbrev pub Lexemes : Type 0
Lexemes = List Lexeme

-- What contracts see of a token of the code (own).
abbrev pub lexeme : Token → Lexeme
lexeme t = record { kind = t.kind; start = t.start; text = t.text.now; number = number_in t.text.now }

-- What contracts see of tokens of the code (own).
abbrev pub lexemes : List Token → Lexemes
lexemes ts = map lexeme ts

-- The byte right after a token (own).
abbrev pub end_of : Lexeme → ℕ
end_of t = t.start + length t.text
