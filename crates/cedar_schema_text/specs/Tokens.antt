-- How a schema text is cut into tokens, from left to right; of the bytes, 34 is the quote, 47 the slash and 92 the backslash
-- (Cedar documentation, schema grammar).
use Rattle.std.specs.Prelude.{ℕ, zero, suc, ◌+◌, ◌-◌, Bool, false, ◌&&◌, ◌==◌, not, if◌then◌else◌, List, [], ◌∷◌, ◌++◌, length, take, drop, Option, Some, None, option_map, Result, Ok, Err, slice_index}
use Rattle.std.specs.List.{prefix_len}
use Rattle.std.specs.Str.{trim_start}
use Rattle.cedar_text.specs.Bytes.{is_letter, is_word, goes_on_line, first}
use Rattle.cedar_schema_text.specs.declared.token_kind.TokenKind.{TokenKind}
use Rattle.cedar_schema_text.specs.declared.token_kind.TokenKind.TheVariants as k
use Rattle.cedar_schema_text.specs.declared.fault.SchemaTextFault.{SchemaTextFault}
use Rattle.cedar_schema_text.specs.declared.fault.SchemaTextFault.TheVariants as f
use Rattle.cedar_schema_text.specs.Marks.{Mark, Marks}

-- ---- blanks

-- Whether the text begins with `//` (Cedar documentation, schema grammar: comments).
abbrev pub begins_comment : List ℕ → Bool
begins_comment bs = first bs == 47 && slice_index bs 1 == 47

-- The text from its first line end on, which is LF or CR (Cedar documentation, schema grammar: comments).
abbrev pub from_line_end : List ℕ → List ℕ
from_line_end bs = drop (prefix_len goes_on_line bs) bs

-- The text after up to n comments, each with the white space after it (Cedar documentation, schema grammar: comments).
unfoldable pub skip_comments : ℕ → List ℕ → List ℕ
skip_comments zero bs = bs
skip_comments (suc n) bs = if begins_comment bs then skip_comments n (trim_start (from_line_end bs)) else bs

-- The text after the white space and the comments at its beginning. White space is what Unicode calls so (Cedar documentation,
-- schema grammar: comments).
abbrev pub skip : List ℕ → List ℕ
skip bs = skip_comments (length bs) (trim_start bs)

-- ---- tokens

-- Whether a byte of a string closes it: a quote that no backslash escapes (Cedar documentation, schema grammar: STR).
abbrev pub closes : Bool → ℕ → Bool
closes escaped b = not escaped && b == 34

-- Whether a byte of a string escapes the next one: a backslash that none escapes (Cedar documentation, schema grammar: STR).
abbrev pub escapes : Bool → ℕ → Bool
escapes escaped b = not escaped && b == 92

-- How many bytes there are up to the quote that closes a string, with it, if there is one. Whether the first one is escaped is known
-- (Cedar documentation, schema grammar: STR).
unfoldable pub string_end : Bool → List ℕ → Option ℕ
string_end escaped [] = None
string_end escaped (b ∷ bs) = if closes escaped b then Some 1 else option_map (λ n. n + 1) (string_end (escapes escaped b) bs)

-- The sign that a byte is, if it is one (Cedar documentation, schema grammar).
abbrev pub sign_of : ℕ → Option TokenKind
sign_of b =
    if b == 123 then Some k.LeftBrace
    else (if b == 125 then Some k.RightBrace
    else (if b == 91 then Some k.LeftBracket
    else (if b == 93 then Some k.RightBracket
    else (if b == 40 then Some k.LeftParen
    else (if b == 41 then Some k.RightParen
    else (if b == 60 then Some k.Less
    else (if b == 62 then Some k.Greater
    else (if b == 44 then Some k.Comma
    else (if b == 59 then Some k.Semicolon
    else (if b == 58 then Some k.Colon
    else (if b == 63 then Some k.Question
    else (if b == 61 then Some k.Equal
    else (if b == 64 then Some k.At
    else None)))))))))))))

-- The kind and the length of the token at the beginning of a text, if there is one: a word, a string, `::`, or a sign of one byte
-- (Cedar documentation, schema grammar: IDENT, STR).
unfoldable pub token_at : List ℕ → Option (TokenKind × ℕ)
token_at bs =
    if is_letter (first bs) then Some (k.Word, prefix_len is_word bs)
    else (if first bs == 34 then option_map (λ n. (k.String, n + 1)) (string_end false (drop 1 bs))
    else (if first bs == 58 && slice_index bs 1 == 58 then Some (k.DoubleColon, 2)
    else option_map (λ kind. (kind, 1)) (sign_of (first bs))))

-- What comes where there is no token, and what comes where there is one (own).
abbrev pub on_token : {A : Type 0} → Option (TokenKind × ℕ) → A → (TokenKind → ℕ → A) → A
on_token None stop go = stop
on_token (Some t) stop go = go t.0 t.1

-- The token of this kind and length at the beginning of what is left of a text that ends at the byte `end` (own).
abbrev pub token_in : ℕ → TokenKind → ℕ → List ℕ → Mark
token_in end kind len bs = record { kind = kind; start = end - length bs; text = take len bs }

-- Up to n tokens are cut from what is left of a text that ends at the byte `end`, after those that were found. Where no token begins,
-- the text is refused (Cedar documentation, schema grammar; own in the place).
unfoldable pub cut_from : ℕ → ℕ → Marks → List ℕ → Result Marks SchemaTextFault
cut_from zero end found bs = Ok found
cut_from (suc n) end found [] = Ok found
cut_from (suc n) end found (b ∷ bs) =
    on_token (token_at (b ∷ bs)) (Err (f.Syntax (end - length (b ∷ bs)))) (λ kind len. cut_from n end (found ++ token_in end kind len (b ∷ bs) ∷ []) (skip (drop len (b ∷ bs))))

-- The tokens of a text as they are written. Each takes at least a byte (Cedar documentation, schema grammar).
unfoldable pub cut : List ℕ → Result Marks SchemaTextFault
cut source = cut_from (length source) (length source) [] (skip source)
