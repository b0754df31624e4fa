-- Tokens of a schema text as contracts see them (Cedar documentation, schema grammar).
use Rattle.std.specs.Prelude.{ℕ, List, map, string_bytes}
use Rattle.std.specs.Borrow.{Bor}
use Rattle.cedar_schema_text.specs.declared.token_kind.TokenKind.{TokenKind}
use Rattle.cedar_schema_text.specs.declared.token.Piece.{Piece}
use Rattle.cedar_schema_text.specs.declared.token.Token.{Token}

-- A token: its kind, the byte from 0 at which it begins, and its text, which for a string is as it is written or what it denotes
-- (own).
pub record Mark : Type 0 where
  pub kind : TokenKind
  pub start : ℕ
  pub text : List ℕ

-- A list of tokens (own).
abbrev pub Marks : Type 0
Marks = List Mark

-- What contracts see of a token as it is written (own).
abbrev pub written : Piece → Mark
written p = record { kind = p.kind; start = p.start; text = p.text.now }

-- What contracts see of a token that was read (own).
abbrev pub mark : Token → Mark
mark t = record { kind = t.kind; start = t.start; text = string_bytes t.text }

-- What contracts see of tokens that were read (own).
abbrev pub marks : List Token → Marks
marks ts = map mark ts

-- What contracts see of tokens that are lent (own).
abbrev pub lent_marks : List (Bor Token) → Marks
lent_marks ts = map (λ t. mark t.now) ts
