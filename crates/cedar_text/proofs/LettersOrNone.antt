-- A string writes letters, or none: it does where it is UTF-8, for all that letters are written out as is UTF-8.
use Rattle.std.proofs.Common.{◌≡◌, refl, sym, subst, ◌∙◌, ℕ, zero, suc, ◌<◌, Bool, true, false, List, [], ◌∷◌, ◌++◌, slice_index, append_assoc, ◌⊎◌, inl, inr, arith}
use Rattle.std.specs.List.{list_all}
use Rattle.std.specs.Prelude.{encode_utf8}
use Rattle.std.specs.Str.{IsUtf8, is_utf8}
use Rattle.std.proofs.lemmas.Bool.{and_parts}
use Rattle.std.proofs.lemmas.Str.{IsUtf8-nil, IsUtf8-append, IsUtf8-encode, IsUtf8-from_ascii, IsUtf8-from_is_utf8, is_utf8-from_IsUtf8}
use Rattle.cedar_text.specs.declared.letter.Letter.{Letter}
use Rattle.cedar_text.specs.Bytes.{is_hex}
use Rattle.cedar_text.specs.Strings.{IsString, IsEscape, short, star, byte, character}
use Rattle.cedar_text.specs.Letters.{IsWritten, plain, bare_star, escaped, AreWritten, nothing, more, IsSpelled}
use Rattle.cedar_text.proofs.Firsts.{hex_ascii, short_ascii, inner_one}
use Rattle.cedar_text.proofs.EveryString.{every_string_by}

one_ascii : (b : ℕ) → b < 128 → (i : ℕ) → slice_index (b ∷ []) i < 128
one_ascii b lt zero = lt
one_ascii b lt (suc i) = omega arith

ascii_then : (b : ℕ) (bs : List ℕ) → b < 128 → IsUtf8 bs → IsUtf8 (b ∷ bs)
ascii_then b bs lt u = IsUtf8-append (b ∷ []) bs (IsUtf8-from_ascii (b ∷ []) (one_ascii b lt)) u

digits_then : (digits rest : List ℕ) → list_all is_hex digits ≡ true → IsUtf8 rest → IsUtf8 (digits ++ rest)
digits_then [] rest h u = u
digits_then (b ∷ bs) rest h u = let p = and_parts (is_hex b) (list_all is_hex bs) h in ascii_then b (bs ++ rest) (hex_ascii b p.0) (digits_then bs rest p.1 u)

escape_then : (front rest : List ℕ) (letter : Letter) → IsEscape front letter → IsUtf8 rest → IsUtf8 (front ++ rest)
escape_then front rest letter (short {b = b} {c = c} s) u = ascii_then b rest (short_ascii b c s) u
escape_then front rest letter star u = ascii_then 42 rest (omega arith) u
escape_then front rest letter (byte {a = a} {b = b} h le) u = ascii_then 120 (a ∷ b ∷ rest) (omega arith) (digits_then (a ∷ b ∷ []) rest h u)
escape_then front rest letter (character digits h low high s) u =
    let inner = subst IsUtf8 (sym (append_assoc digits (125 ∷ []) rest)) (digits_then digits (125 ∷ rest) h (ascii_then 125 rest (omega arith) u)) in
    ascii_then 117 (123 ∷ (digits ++ 125 ∷ []) ++ rest) (omega arith) (ascii_then 123 ((digits ++ 125 ∷ []) ++ rest) (omega arith) inner)

letter_then : (front rest : List ℕ) (letter : Letter) → IsWritten front letter → IsUtf8 rest → IsUtf8 (front ++ rest)
letter_then front rest letter (plain {c = c} s q b t) u = IsUtf8-append (encode_utf8 c) rest (IsUtf8-encode c s) u
letter_then front rest letter bare_star u = ascii_then 42 rest (omega arith) u
letter_then front rest letter (escaped {front = inner} e) u = ascii_then 92 (inner ++ rest) (omega arith) (escape_then inner rest letter e u)

written_utf8 : (bytes : List ℕ) (letters : List Letter) → AreWritten bytes letters → IsUtf8 bytes
written_utf8 bytes letters nothing = IsUtf8-nil
written_utf8 bytes letters (more {front = front} {rest = rest} {letter = letter} {letters = others} w a) = letter_then front rest letter w (written_utf8 rest others a)

abbrev HasOrLacks : List ℕ → Type 0
HasOrLacks text = ((letters : List Letter) × IsSpelled text letters) ⊎ ((letters : List Letter) → IsSpelled text letters → ⊥)

differ : true ≡ false → ⊥
differ e = absurd cc

decided : (inner : List ℕ) (b : Bool) → is_utf8 inner ≡ b → IsString inner → HasOrLacks (34 ∷ inner ++ 34 ∷ [])
decided inner true e i = inl (every_string_by inner (IsUtf8-from_is_utf8 inner e) i)
decided inner false e i = inr (λ letters s. differ (sym (is_utf8-from_IsUtf8 inner (subst IsUtf8 (inner_one (34 ∷ inner ++ 34 ∷ []) s.0 inner s.1 refl) (written_utf8 s.0 letters s.2))) ∙ e))

pub letters_or_none_by : (inner : List ℕ) → IsString inner → HasOrLacks (34 ∷ inner ++ 34 ∷ [])
letters_or_none_by inner i = decided inner (is_utf8 inner) refl i
