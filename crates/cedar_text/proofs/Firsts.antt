-- The letter that the reader finds first is the one that the text writes there.
use Rattle.std.proofs.Common.{◌≡◌, ◌≢◌, refl, sym, ap, subst, ◌∙◌, ℕ, ◌+◌, ◌≤◌, ◌<◌, true, ◌&&◌, List, ◌∷◌, ◌++◌, length, take, drop, Option, Some, None, append_assoc, length-append, arith, []}
use Rattle.std.specs.Prelude.{encode_utf8}
use Rattle.std.specs.Char.{IsScalar, digit_value, len_utf8}
use Rattle.std.specs.Str.{IsUtf8, IsCharBoundary}
use Rattle.std.proofs.lemmas.Bool.{and_parts, ltb-true}
use Rattle.std.proofs.lemmas.Bool.Decides.{nat_tests}
use Rattle.std.proofs.lemmas.List.{append-nil, take_at, append_cancel_right, take-append-drop}
use Rattle.std.proofs.lemmas.Str.{encode_ascii, length-encode, IsCharBoundary-past_char}
use Rattle.cedar_text.specs.declared.letter.Letter.{Letter}
use Rattle.cedar_text.specs.declared.letter.Letter.TheVariants.{Character, Star}
use Rattle.cedar_text.specs.Bytes.{is_hex}
use Rattle.cedar_text.specs.Strings.{IsShort, line_feed, IsEscape, short, star, byte, character}
use Rattle.cedar_text.specs.Letters.{HasQuotes, IsWritten, plain, bare_star, escaped, AreWritten, nothing, more, IsSpelled}
use Rattle.cedar_text.specs.Private.FirstLetter.{BeginsWith, StartsEscape, IsFirst, BeginsNone, StartsNoEscape}
use Rattle.cedar_text.specs.Private.Lexing.{escape_len, escaped_letter}
use Rattle.cedar_text.proofs.Escapes.{EscapeIs, escape_is}
use Rattle.cedar_text.proofs.Boundaries.{EndsAscii, ends_more, after_ascii}
use Rattle.cedar_text.proofs.Spelled.{letter_of, ascii_first, heads_differ, written_some, written_split, no_letters}

-- ---- escapes

abbrev letter_some : Letter → Option Letter
letter_some l = Some l

same_letter : (l m : Letter) → letter_some l ≡ letter_some m → l ≡ m
same_letter l m e = cc

no_letter : (l : Letter) → letter_some l ≡ None → ⊥
no_letter l e = absurd cc

found_at : (bs : List ℕ) (n : ℕ) → escape_len bs ≡ Some n → EscapeIs bs (Some n)
found_at bs n e = subst (EscapeIs bs) e (escape_is bs)

take_front : (bs front rest : List ℕ) (n : ℕ) → bs ≡ front ++ rest → length front ≡ n → take n bs ≡ front
take_front bs front rest n e l = ap (take n) e ∙ take_at front rest n l

pub escape_found : (bs : List ℕ) (n : ℕ) (letter : Letter) → escape_len bs ≡ Some n → escaped_letter (take n bs) ≡ Some letter → StartsEscape bs letter n
escape_found bs n letter e f =
    let h = found_at bs n e in
    let l = same_letter h.2 letter (sym (letter_of h.0 h.2 h.5) ∙ sym (ap escaped_letter (take_front bs h.0 h.1 n h.3 h.4)) ∙ f) in
    (h.0, h.1, h.3, h.4, subst (λ (x : Letter). IsEscape h.0 x) l h.5)

pub escape_known : (bs : List ℕ) (n : ℕ) → escape_len bs ≡ Some n → escaped_letter (take n bs) ≡ None → ⊥
escape_known bs n e f = let h = found_at bs n e in no_letter h.2 (sym (letter_of h.0 h.2 h.5) ∙ sym (ap escaped_letter (take_front bs h.0 h.1 n h.3 h.4)) ∙ f)

pub hex_ascii : (b : ℕ) → is_hex b ≡ true → b < 128
hex_ascii b h = let lt : digit_value b < 16 = ltb-true (digit_value b) 16 h in grind (arith, nat_tests)

pub short_ascii : (b c : ℕ) → IsShort b c → b < 128
short_ascii b c line_feed = omega arith
short_ascii b c _ = omega arith

pub escape_ends : (front : List ℕ) (letter : Letter) → IsEscape front letter → EndsAscii front
escape_ends front letter (short {b = b} {c = c} s) = ([], b, refl, short_ascii b c s)
escape_ends front letter star = ([], 42, refl, omega arith)
escape_ends front letter (byte {a = a} {b = b} h le) =
    let p = and_parts (is_hex a) (is_hex b && true) h in
    let q = and_parts (is_hex b) true p.1 in
    (120 ∷ a ∷ [], b, refl, hex_ascii b q.0)
escape_ends front letter (character digits h low high s) = (117 ∷ 123 ∷ digits, 125, refl, omega arith)

-- ---- the first letter

pub quote_none : (text : List ℕ) → BeginsWith text 34 → BeginsNone text
quote_none text h front rest letter e w = clash front letter w (quoted ∙ e)
  where
    quoted : 34 ∷ h.0 ≡ text
    quoted = sym (h.1 ∙ ap (λ (xs : List ℕ). xs ++ h.0) (encode_ascii 34 (omega arith)))

    clash : (front : List ℕ) (letter : Letter) → IsWritten front letter → 34 ∷ h.0 ≡ front ++ rest → ⊥
    clash front letter (plain {c = c} i q b t) f = q (ascii_first c 34 rest h.0 (omega arith) (sym f)).0
    clash front letter bare_star f = heads_differ 34 42 h.0 rest (λ g. omega arith) f
    clash front letter (escaped {front = inner} i) f = heads_differ 34 92 h.0 (inner ++ rest) (λ g. omega arith) f

-- a letter that is written out as its front and its rest
first_at : (front rest : List ℕ) (letter : Letter) (len : ℕ) → length front ≡ len → IsWritten front letter → IsCharBoundary (front ++ rest) (length front) → IsFirst (front ++ rest) letter len
first_at front rest letter len e w b = record {
  some = (let some = written_some front letter w in omega arith);
  within = omega (arith, length-append front rest);
  written = subst (λ (xs : List ℕ). IsWritten xs letter) (sym (take_at front rest len e)) w;
  boundary = subst (IsCharBoundary (front ++ rest)) e b;
}

pub ascii_boundary : (front rest : List ℕ) → EndsAscii front → IsUtf8 (front ++ rest) → IsCharBoundary (front ++ rest) (length front)
ascii_boundary front rest e u = subst (λ (xs : List ℕ). IsCharBoundary (xs ++ rest) (length xs)) (sym e.2) (after_ascii e.0 rest e.1 e.3 (subst (λ (xs : List ℕ). IsUtf8 (xs ++ rest)) e.2 u))

ascii_begins : (text : List ℕ) (a : ℕ) → a < 128 → (h : BeginsWith text a) → text ≡ a ∷ h.0
ascii_begins text a small h = h.1 ∙ ap (λ (xs : List ℕ). xs ++ h.0) (encode_ascii a small)

pub star_first : (text : List ℕ) → IsUtf8 text → BeginsWith text 42 → IsFirst text Star 1
star_first text u h =
    let e = ascii_begins text 42 (omega arith) h in
    subst (λ (xs : List ℕ). IsFirst xs Star 1) (sym e) (first_at (42 ∷ []) h.0 Star 1 refl bare_star (ascii_boundary (42 ∷ []) h.0 ([], 42, refl, omega arith) (subst IsUtf8 e u)))

pub plain_first : (text : List ℕ) (c : ℕ) → IsUtf8 text → BeginsWith text c → IsScalar c → c ≢ 34 → c ≢ 92 → c ≢ 42 → IsFirst text (Character c) (len_utf8 c)
plain_first text c u h i q b t =
    let past : IsCharBoundary (encode_utf8 c ++ h.0) (0 + len_utf8 c) = IsCharBoundary-past_char (encode_utf8 c ++ h.0) h.0 0 c (omega arith) (subst IsUtf8 h.1 u) refl in
    let n : 0 + len_utf8 c ≡ length (encode_utf8 c) = omega (arith, length-encode c) in
    subst (λ (xs : List ℕ). IsFirst xs (Character c) (len_utf8 c)) (sym h.1) (first_at (encode_utf8 c) h.0 (Character c) (len_utf8 c) (length-encode c) (plain i q b t) (subst (IsCharBoundary (encode_utf8 c ++ h.0)) n past))

pub escape_first : (text : List ℕ) (letter : Letter) (len : ℕ) → IsUtf8 text → BeginsWith text 92 → StartsEscape (drop 1 text) letter len → IsFirst text letter (len + 1)
escape_first text letter len u h s =
    let e = ascii_begins text 92 (omega arith) h in
    let f : text ≡ (92 ∷ s.0) ++ s.1 = e ∙ ap (λ (xs : List ℕ). 92 ∷ xs) (sym (ap (drop 1) e) ∙ s.2) in
    let n : length (92 ∷ s.0) ≡ len + 1 = (let l = s.3 in omega arith) in
    subst (λ (xs : List ℕ). IsFirst xs letter (len + 1)) (sym f)
    (first_at (92 ∷ s.0) s.1 letter (len + 1) n (escaped s.4) (ascii_boundary (92 ∷ s.0) s.1 (ends_more 92 s.0 (escape_ends s.0 letter s.4)) (subst IsUtf8 f u)))

pub escape_none : (text : List ℕ) → BeginsWith text 92 → StartsNoEscape (drop 1 text) → BeginsNone text
escape_none text h none front rest letter e w = clash front letter w (slashed ∙ e)
  where
    slashed : 92 ∷ h.0 ≡ text
    slashed = sym (ascii_begins text 92 (omega arith) h)

    clash : (front : List ℕ) (letter : Letter) → IsWritten front letter → 92 ∷ h.0 ≡ front ++ rest → ⊥
    clash front letter (plain {c = c} i q b t) f = b (ascii_first c 92 rest h.0 (omega arith) (sym f)).0
    clash front letter bare_star f = heads_differ 92 42 h.0 rest (λ g. omega arith) f
    clash front letter (escaped {front = inner} i) f = none inner rest letter (sym (ap (drop 1) slashed) ∙ ap (drop 1) f) i

-- ---- the whole text

pub inner_one : (text a b : List ℕ) → HasQuotes text a → HasQuotes text b → a ≡ b
inner_one text a b e f = append_cancel_right a b (34 ∷ []) (ap (drop 1) (sym e ∙ f))

nothing_left : (left : List Letter) → AreWritten [] left → left ≡ []
nothing_left left a = by [] left a refl
  where
    by : (rest : List ℕ) (left : List Letter) → AreWritten rest left → rest ≡ [] → left ≡ []
    by rest left nothing e = refl
    by rest left (more {front = f} {rest = r} {letter = l} w a) e = absurd (no_letters f r l w (sym e))

no_bytes : (rest : List ℕ) → length rest ≤ 0 → rest ≡ []
no_bytes [] e = refl
no_bytes (b ∷ rest) e = absurd (omega arith)

pub spelled_by : (text before rest : List ℕ) (found : List Letter) → HasQuotes text (before ++ rest) → AreWritten before found → length rest ≤ 0 → IsSpelled text found
spelled_by text before rest found q a e =
    let none = no_bytes rest e in
    let same : before ++ rest ≡ before = ap (λ (xs : List ℕ). before ++ xs) none ∙ append-nil before in
    (before, subst (HasQuotes text) same q, a)

pub only_spelled : (text before rest : List ℕ) (found letters : List Letter) → HasQuotes text (before ++ rest) → AreWritten before found → length rest ≤ 0 → IsSpelled text letters → found ≡ letters
only_spelled text before rest found letters q a e s =
    let t = written_split before found rest s.0 letters a s.2 (inner_one text s.0 (before ++ rest) s.1 q) in
    let none = nothing_left t.0 (subst (λ (xs : List ℕ). AreWritten xs t.0) (no_bytes rest e) t.1) in
    sym (t.2 ∙ ap (λ (xs : List Letter). found ++ xs) none ∙ append-nil found)

pub stuck : (text before rest : List ℕ) (found letters : List Letter) → HasQuotes text (before ++ rest) → AreWritten before found → 0 < length rest → BeginsNone rest → IsSpelled text letters → ⊥
stuck text before rest found letters q a some none s =
    let t = written_split before found rest s.0 letters a s.2 (inner_one text s.0 (before ++ rest) s.1 q) in by rest t.0 t.1 none some
  where
    by : (rest : List ℕ) (left : List Letter) → AreWritten rest left → BeginsNone rest → 0 < length rest → ⊥
    by rest left nothing none some = omega arith
    by _ left (more {front = f} {rest = r} {letter = l} w a) none some = none f r l refl w

pub one_spelling_by : (text : List ℕ) (letters others : List Letter) → IsSpelled text letters → IsSpelled text others → letters ≡ others
one_spelling_by text letters others s t = only_spelled text s.0 [] letters others (subst (HasQuotes text) (sym (append-nil s.0)) s.1) s.2 (omega arith) t

-- one letter more
pub quoted_on : (text before rest : List ℕ) (len : ℕ) → HasQuotes text (before ++ rest) → HasQuotes text ((before ++ take len rest) ++ drop len rest)
quoted_on text before rest len q =
    subst (HasQuotes text) (sym (append_assoc before (take len rest) (drop len rest) ∙ ap (λ (xs : List ℕ). before ++ xs) (take-append-drop len rest))) q
