-- Words: identifiers and reserved words (Cedar language reference, grammar: IDENT, RESERVED).
use Rattle.std.specs.Prelude.{ℕ, if◌then◌else◌, List, codes}
use Rattle.std.specs.Str.{bytes_eq}
use Rattle.cedar_text.specs.declared.token_kind.TokenKind.{TokenKind}
use Rattle.cedar_text.specs.declared.token_kind.TokenKind.TheVariants as k

-- The kind of a word: each reserved word has its own, any other word is an identifier (Cedar language reference, grammar:
-- IDENT, RESERVED).
abbrev pub word_kind : List ℕ → TokenKind
word_kind w =
    if bytes_eq w (codes "true") then k.True
    else (if bytes_eq w (codes "false") then k.False
    else (if bytes_eq w (codes "if") then k.If
    else (if bytes_eq w (codes "then") then k.Then
    else (if bytes_eq w (codes "else") then k.Else
    else (if bytes_eq w (codes "in") then k.In
    else (if bytes_eq w (codes "is") then k.Is
    else (if bytes_eq w (codes "like") then k.Like
    else (if bytes_eq w (codes "has") then k.Has
    else k.Identifier))))))))
