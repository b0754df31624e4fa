-- How often tokens open and close brackets (own).
use Rattle.std.specs.Prelude.{◌≡◌, ℕ, ◌+◌, ◌<◌, true, false, Bool, if◌then◌else◌, [], ◌∷◌, ◌++◌}
use Rattle.cedar_text.specs.declared.token_kind.TokenKind.{TokenKind}
use Rattle.cedar_text.specs.declared.token_kind.TokenKind.TheVariants as k
use Rattle.cedar_parser_tokens.specs.Marks.{Marks}

-- Whether a token of this kind opens: `(`, `[`, `{` or `if` (own).
abbrev pub opens : TokenKind → Bool
opens k.LeftParen = true
opens k.LeftBracket = true
opens k.LeftBrace = true
opens k.If = true
opens _ = false

-- Whether a token of this kind closes a bracket: `)`, `]` or `}` (own).
abbrev pub closes : TokenKind → Bool
closes k.RightParen = true
closes k.RightBracket = true
closes k.RightBrace = true
closes _ = false

-- How many of the tokens open a bracket or are an `if` (own).
unfoldable pub opened : Marks → ℕ
opened [] = 0
opened (t ∷ ts) = (if opens t.kind then 1 else 0) + opened ts

-- How many of the tokens close a bracket (own).
unfoldable pub closed : Marks → ℕ
closed [] = 0
closed (t ∷ ts) = (if closes t.kind then 1 else 0) + closed ts

-- Among some first tokens there are more than d more that open than that close (own).
pub record IsDeep (d : ℕ) (ts : Marks) : Type 0 where
  pub front : Marks
  pub rest : Marks
  pub whole : ts ≡ front ++ rest
  pub over : closed front + d < opened front
