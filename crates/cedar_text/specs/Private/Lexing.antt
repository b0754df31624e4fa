-- Cutting from left to right, as the code does. The grammar in `specs/Tokens.antt` says what the tokens of a text are.
use Rattle.std.specs.Prelude.{ℕ, zero, suc, ◌+◌, ◌*◌, ◌-◌, min, Bool, ◌||◌, ◌&&◌, ◌==◌, nat_le, nat_lt, if◌then◌else◌, List, [], ◌∷◌, ◌++◌, take, drop, Option, Some, None, Result, Ok, Err, slice_index}
use Rattle.std.specs.Char.{digit_value}
use Rattle.std.specs.List.{prefix_len}
use lib.Utf8.{scalar}
use Rattle.cedar_text.specs.declared.letter.Letter.{Letter}
use Rattle.cedar_text.specs.declared.letter.Letter.TheVariants.{Character, EscapedStar}
use Rattle.cedar_text.specs.declared.token_kind.TokenKind.{TokenKind}
use Rattle.cedar_text.specs.declared.token_kind.TokenKind.TheVariants as k
use Rattle.cedar_text.specs.declared.piece.Piece.{Piece}
use Rattle.cedar_text.specs.Lexeme.{Lexemes}
use Rattle.cedar_text.specs.Bytes.{is_letter, is_digit, is_word, is_hex, goes_on_line, first}
use Rattle.cedar_text.specs.Words.{word_kind}
use Rattle.cedar_text.specs.Numbers.{max_number}

pub data Refusal : Type 0 where
  BadCharacter : Refusal
  UnclosedString : Refusal
  BadEscape : Refusal
  NumberTooLarge : Refusal

-- ---- blanks

-- white space of two bytes, and of three
abbrev pub is_white_pair : ℕ → ℕ → Bool
is_white_pair a b = a == 0xC2 && (b == 0x85 || b == 0xA0)

abbrev pub is_white_triple : ℕ → ℕ → ℕ → Bool
is_white_triple a b c =
    (a == 0xE1 && b == 0x9A && c == 0x80)
    || (a == 0xE2 && b == 0x80 && ((nat_le 0x80 c && nat_le c 0x8A) || c == 0xA8 || c == 0xA9 || c == 0xAF))
    || (a == 0xE2 && b == 0x81 && c == 0x9F)
    || (a == 0xE3 && b == 0x80 && c == 0x80)

-- how many bytes of white space come first, where it has two or three
abbrev pub long_white_len : List ℕ → ℕ
long_white_len bs =
    if is_white_pair (first bs) (slice_index bs 1) then 2
    else (if is_white_triple (first bs) (slice_index bs 1) (slice_index bs 2) then 3 else 0)

-- how many bytes of white space come first
abbrev pub white_len : List ℕ → ℕ
white_len bs = if first bs == 32 || (nat_le 9 (first bs) && nat_le (first bs) 13) then 1 else long_white_len bs

-- ---- strings

-- whether the byte alone is an escape after a backslash: n r t \ 0 ' " *
abbrev pub is_short : ℕ → Bool
is_short b = b == 110 || b == 114 || b == 116 || b == 92 || b == 48 || b == 39 || b == 34 || b == 42

-- the value of hexadecimal digits, cut at the first number that is not a character
abbrev pub capped_hexadecimal_from : ℕ → List ℕ → ℕ
capped_hexadecimal_from n [] = n
capped_hexadecimal_from n (b ∷ bs) = capped_hexadecimal_from (min (16 * n + digit_value b) 0x110000) bs

-- whether one to six of these bytes are digits of a character, followed by a brace
abbrev pub is_code : ℕ → List ℕ → Bool
is_code n bs = nat_lt 0 n && nat_lt n 7 && slice_index bs n == 125 && scalar (capped_hexadecimal_from 0 (take n bs))

-- how many bytes the escape at the beginning has
unfoldable pub escape_len : List ℕ → Option ℕ
escape_len bs =
    if is_short (first bs) then Some 1
    else (if first bs == 120 then (if nat_lt (digit_value (slice_index bs 1)) 8 && is_hex (slice_index bs 2) then Some 3 else None)
    else (if first bs == 117 && slice_index bs 1 == 123 && is_code (prefix_len is_hex (drop 2 bs)) (drop 2 bs) then Some (prefix_len is_hex (drop 2 bs) + 3)
    else None))

-- n more bytes
abbrev pub further : ℕ → Result ℕ Refusal → Result ℕ Refusal
further n (Ok m) = Ok (m + n)
further n (Err x) = Err x

-- what is wrong where there is no escape
abbrev pub no_escape : List ℕ → Result ℕ Refusal
no_escape [] = Err UnclosedString
no_escape (b ∷ bs) = Err BadEscape

abbrev pub escaped : Option ℕ → List ℕ → (ℕ → Result ℕ Refusal) → Result ℕ Refusal
escaped (Some n) bs f = f n
escaped None bs f = no_escape bs

-- how many bytes there are up to the closing quote, which is one of them; n bytes of an escape are still to be passed
unfoldable pub string_len : ℕ → List ℕ → Result ℕ Refusal
string_len n [] = Err UnclosedString
string_len (suc n) (b ∷ bs) = further 1 (string_len n bs)
string_len zero (b ∷ bs) =
    if b == 34 then Ok 1
    else (if b == 92 then further 1 (escaped (escape_len bs) bs (λ n. string_len n bs))
    else further 1 (string_len zero bs))

-- the character of a byte after a backslash
abbrev pub short_value : ℕ → ℕ
short_value b = if b == 110 then 10 else (if b == 114 then 13 else (if b == 116 then 9 else (if b == 48 then 0 else b)))

abbrev pub code_letter : ℕ → Option Letter
code_letter n = if scalar n then Some (Character n) else None

-- the letter of an escape: these are the bytes after the backslash
unfoldable pub escaped_letter : List ℕ → Option Letter
escaped_letter front =
    if first front == 42 then Some EscapedStar
    else (if first front == 120 then code_letter (capped_hexadecimal_from 0 (drop 1 front))
    else (if first front == 117 then code_letter (capped_hexadecimal_from 0 (take (prefix_len is_hex (drop 2 front)) (drop 2 front)))
    else Some (Character (short_value (first front)))))

-- ---- pieces

-- the value of decimal digits, cut at the first number that is too large
abbrev pub capped_decimal_from : ℕ → List ℕ → ℕ
capped_decimal_from n [] = n
capped_decimal_from n (b ∷ bs) = capped_decimal_from (min (10 * n + (b - 48)) (max_number + 1)) bs

-- signs of two bytes and of one
abbrev pub long_sign : ℕ → ℕ → Option TokenKind
long_sign a b =
    if a == 58 && b == 58 then Some k.DoubleColon
    else (if a == 61 && b == 61 then Some k.Equal
    else (if a == 33 && b == 61 then Some k.NotEqual
    else (if a == 60 && b == 61 then Some k.LessEqual
    else (if a == 62 && b == 61 then Some k.GreaterEqual
    else (if a == 38 && b == 38 then Some k.AndAnd
    else (if a == 124 && b == 124 then Some k.OrOr
    else None))))))

abbrev pub short_sign : ℕ → Option TokenKind
short_sign a =
    if a == 64 then Some k.At
    else (if a == 40 then Some k.LeftParen
    else (if a == 41 then Some k.RightParen
    else (if a == 123 then Some k.LeftBrace
    else (if a == 125 then Some k.RightBrace
    else (if a == 91 then Some k.LeftBracket
    else (if a == 93 then Some k.RightBracket
    else (if a == 44 then Some k.Comma
    else (if a == 59 then Some k.Semicolon
    else (if a == 46 then Some k.Dot
    else (if a == 58 then Some k.Colon
    else (if a == 60 then Some k.Less
    else (if a == 62 then Some k.Greater
    else (if a == 43 then Some k.Plus
    else (if a == 45 then Some k.Minus
    else (if a == 42 then Some k.Star
    else (if a == 33 then Some k.Not
    else None))))))))))))))))

abbrev pub skipped : ℕ → Piece
skipped n = record { kind = None; len = n; number = 0 }

abbrev pub lexed : TokenKind → ℕ → ℕ → Piece
lexed kind n value = record { kind = Some kind; len = n; number = value }

abbrev pub number_of : ℕ → ℕ → Result Piece Refusal
number_of n value = if nat_lt max_number value then Err NumberTooLarge else Ok (lexed k.Number n value)

abbrev pub string_of : Result ℕ Refusal → Result Piece Refusal
string_of (Ok n) = Ok (lexed k.String (n + 1) 0)
string_of (Err x) = Err x

abbrev pub slot_of : List ℕ → Result Piece Refusal
slot_of bs = if is_letter (first bs) then Ok (lexed k.Slot (prefix_len is_word bs + 1) 0) else Err BadCharacter

abbrev pub sign_of : Option TokenKind → Option TokenKind → Result Piece Refusal
sign_of (Some kind) short = Ok (lexed kind 2 0)
sign_of None (Some kind) = Ok (lexed kind 1 0)
sign_of None None = Err BadCharacter

abbrev pub begins_comment : List ℕ → Bool
begins_comment bs = first bs == 47 && slice_index bs 1 == 47

abbrev pub number_at : List ℕ → Result Piece Refusal
number_at bs = number_of (prefix_len is_digit bs) (capped_decimal_from 0 (take (prefix_len is_digit bs) bs))

abbrev pub sign_at : List ℕ → Result Piece Refusal
sign_at bs = sign_of (long_sign (first bs) (slice_index bs 1)) (short_sign (first bs))

-- the first blank or token of a text that isn't empty
unfoldable pub piece : List ℕ → Result Piece Refusal
piece bs =
    if nat_lt 0 (white_len bs) then Ok (skipped (white_len bs))
    else (if begins_comment bs then Ok (skipped (prefix_len goes_on_line bs))
    else (if is_letter (first bs) then Ok (lexed (word_kind (take (prefix_len is_word bs) bs)) (prefix_len is_word bs) 0)
    else (if is_digit (first bs) then number_at bs
    else (if first bs == 34 then string_of (string_len 0 (drop 1 bs))
    else (if first bs == 63 then slot_of (drop 1 bs)
    else sign_at bs)))))

-- ---- the whole text

-- the tokens of a piece, with those after it
abbrev pub add : ℕ → List ℕ → Piece → Lexemes → Lexemes
add at bs p ts = add_by p.kind at bs p ts
  where
    add_by : Option TokenKind → ℕ → List ℕ → Piece → Lexemes → Lexemes
    add_by None at bs p ts = ts
    add_by (Some kind) at bs p ts = record { kind = kind; start = at; text = take p.len bs; number = p.number } ∷ ts

-- the tokens found, with that of a piece at their end
abbrev pub found_with : Option TokenKind → ℕ → List ℕ → ℕ → ℕ → Lexemes → Lexemes
found_with None at bs len n front = front
found_with (Some kind) at bs len n front = front ++ record { kind = kind; start = at; text = bs; number = n } ∷ []

abbrev pub and_then : {A B : Type 0} → Result A Refusal → (A → Result B Refusal) → Result B Refusal
and_then (Ok a) f = f a
and_then (Err x) f = Err x

-- The first number bounds the pieces, of which each takes a byte.
unfoldable pub lex : ℕ → ℕ → List ℕ → Result Lexemes Refusal
lex n at [] = Ok []
lex zero at (b ∷ bs) = Ok []
lex (suc n) at (b ∷ bs) = and_then (piece (b ∷ bs)) (λ p. and_then (lex n (at + p.len) (drop p.len (b ∷ bs))) (λ ts. Ok (add at (b ∷ bs) p ts)))
