-- Signs (Cedar language reference, grammar; operators).
use Rattle.std.specs.Prelude.{◌≡◌, ℕ, ◌≤◌, List, ◌++◌, length, codes}
use Rattle.cedar_text.specs.declared.token_kind.TokenKind.{TokenKind}
use Rattle.cedar_text.specs.declared.token_kind.TokenKind.TheVariants as k

-- The text is a sign, and this is its kind (Cedar language reference, grammar; operators).
pub data IsSign : List ℕ → TokenKind → Type 0 where
  double_colon : IsSign (codes "::") k.DoubleColon
  equal : IsSign (codes "==") k.Equal
  not_equal : IsSign (codes "!=") k.NotEqual
  less_equal : IsSign (codes "<=") k.LessEqual
  greater_equal : IsSign (codes ">=") k.GreaterEqual
  and_and : IsSign (codes "&&") k.AndAnd
  or_or : IsSign (codes "||") k.OrOr
  at : IsSign (codes "@") k.At
  left_paren : IsSign (codes "(") k.LeftParen
  right_paren : IsSign (codes ")") k.RightParen
  left_brace : IsSign (codes "{") k.LeftBrace
  right_brace : IsSign (codes "}") k.RightBrace
  left_bracket : IsSign (codes "[") k.LeftBracket
  right_bracket : IsSign (codes "]") k.RightBracket
  comma : IsSign (codes ",") k.Comma
  semicolon : IsSign (codes ";") k.Semicolon
  dot : IsSign (codes ".") k.Dot
  colon : IsSign (codes ":") k.Colon
  less : IsSign (codes "<") k.Less
  greater : IsSign (codes ">") k.Greater
  plus : IsSign (codes "+") k.Plus
  minus : IsSign (codes "-") k.Minus
  star : IsSign (codes "*") k.Star
  not : IsSign (codes "!") k.Not

-- No longer sign begins where this one does: the sign is as long as the rest allows (Cedar language reference, grammar).
abbrev pub IsLongest : List ℕ → List ℕ → Type 0
IsLongest front rest = (other more : List ℕ) (kind : TokenKind) → IsSign other kind → front ++ rest ≡ other ++ more → length other ≤ length front
