-- A text writes its letters in one way.
use Rattle.std.proofs.Common.{◌≡◌, ◌≢◌, refl, sym, ap, subst, ◌∙◌, ℕ, ◌<◌, true, List, ◌∷◌, ◌++◌, length, take, drop, Option, Some, None, append_assoc, length-append, arith, []}
use Rattle.std.specs.Prelude.{encode_utf8, slice_index}
use Rattle.std.specs.Char.{IsScalar}
use Rattle.std.specs.List.{prefix_len, list_all}
use Rattle.std.proofs.lemmas.Bool.{cond-true}
use Rattle.std.proofs.lemmas.List.{append-nil, take_at, drop_at}
use Rattle.std.proofs.lemmas.Str.{encode_ascii, encode_same, length-encode, len_utf8_bounds}
use lib.Utf8.{scalar, low_scalar}
use Rattle.cedar_text.specs.declared.letter.Letter.{Letter}
use Rattle.cedar_text.specs.declared.letter.Letter.TheVariants.{Character}
use Rattle.cedar_text.specs.Bytes.{is_hex}
use Rattle.cedar_text.specs.Numbers.{hexadecimal_from}
use Rattle.cedar_text.specs.Strings.{IsShort, line_feed, IsEscape, short, star, byte, character}
use Rattle.cedar_text.specs.Letters.{IsWritten, plain, bare_star, escaped, AreWritten, nothing, more}
use Rattle.cedar_text.specs.Private.Lexing.{escape_len, capped_hexadecimal_from, code_letter, escaped_letter}
use Rattle.cedar_text.proofs.Runs.{run_of}
use Rattle.cedar_text.proofs.Digits.{capped_scalar}
use Rattle.cedar_text.proofs.Escapes.{escape_again}

-- ---- one letter

code_is : (digits : List ℕ) → IsScalar (hexadecimal_from 0 digits) → code_letter (capped_hexadecimal_from 0 digits) ≡ Some (Character (hexadecimal_from 0 digits))
code_is digits s = ap code_letter (capped_scalar digits s) ∙ cond-true (scalar (hexadecimal_from 0 digits)) (Some (Character (hexadecimal_from 0 digits))) None s

digits_of : (digits : List ℕ) → list_all is_hex digits ≡ true → take (prefix_len is_hex (digits ++ 125 ∷ [])) (digits ++ 125 ∷ []) ≡ digits
digits_of digits h = ap (λ (n : ℕ). take n (digits ++ 125 ∷ [])) (run_of is_hex digits (125 ∷ []) h refl) ∙ take_at digits (125 ∷ []) (length digits) refl

short_letter : (b c : ℕ) → IsShort b c → escaped_letter (b ∷ []) ≡ Some (Character c)
unfolding escaped_letter
short_letter b c line_feed = refl
short_letter b c _ = refl

pub letter_of : (front : List ℕ) (letter : Letter) → IsEscape front letter → escaped_letter front ≡ Some letter
unfolding escaped_letter
letter_of front letter (short {b = b} {c = c} s) = short_letter b c s
letter_of front letter star = refl
letter_of front letter (byte {a = a} {b = b} h le) = code_is (a ∷ b ∷ []) (low_scalar (hexadecimal_from 0 (a ∷ b ∷ [])) (omega arith))
letter_of front letter (character digits h low high s) = ap (λ (xs : List ℕ). code_letter (capped_hexadecimal_from 0 xs)) (digits_of digits h) ∙ code_is digits s

abbrev some_length : ℕ → Option ℕ
some_length n = Some n

same_length : (m n : ℕ) → some_length m ≡ some_length n → m ≡ n
same_length m n e = cc

same_letter : (l m : Letter) → Some l ≡ Some m → l ≡ m
same_letter l m e = cc

-- lists that begin with parts of one length
same_front : (f r g s : List ℕ) → f ++ r ≡ g ++ s → length f ≡ length g → (f ≡ g) × (r ≡ s)
same_front f r g s e l = (
  sym (take_at f r (length f) refl) ∙ ap (take (length f)) e ∙ take_at g s (length f) (sym l),
  sym (drop_at f r (length f) refl) ∙ ap (drop (length f)) e ∙ drop_at g s (length f) (sym l),
)

escape_one : (f r g s : List ℕ) (l m : Letter) → IsEscape f l → IsEscape g m → f ++ r ≡ g ++ s → (l ≡ m) × (r ≡ s)
escape_one f r g s l m i j e =
    let n = same_length (length f) (length g) (sym (escape_again f r l i) ∙ ap escape_len e ∙ escape_again g s m j) in
    let q = same_front f r g s e n in
    (same_letter l m (sym (letter_of f l i) ∙ ap escaped_letter q.0 ∙ letter_of g m j), q.1)

-- a character of ASCII that comes first
pub ascii_first : (c a : ℕ) (r s : List ℕ) → a < 128 → encode_utf8 c ++ r ≡ a ∷ s → (c ≡ a) × (r ≡ s)
ascii_first c a r s small e = encode_same c a r s (e ∙ sym (ap (λ (xs : List ℕ). xs ++ s) (encode_ascii a small)))

pub heads_differ : (a b : ℕ) (r s : List ℕ) → a ≢ b → a ∷ r ≡ b ∷ s → ⊥
heads_differ a b r s ne e = ne (ap (λ (xs : List ℕ). slice_index xs 0) e)

pub written_one : (f r g s : List ℕ) (l m : Letter) → IsWritten f l → IsWritten g m → f ++ r ≡ g ++ s → (l ≡ m) × (r ≡ s)
written_one f r g s l m (plain {c = c} i q b t) (plain {c = d} j q' b' t') e = let h = encode_same c d r s e in (ap (λ (x : ℕ). Character x) h.0, h.1)
written_one f r g s l m (plain {c = c} i q b t) bare_star e = absurd (t (ascii_first c 42 r s (omega arith) e).0)
written_one f r g s l m (plain {c = c} i q b t) (escaped {front = front} j) e = absurd (b (ascii_first c 92 r (front ++ s) (omega arith) e).0)
written_one f r g s l m bare_star (plain {c = d} j q b t) e = absurd (t (ascii_first d 42 s r (omega arith) (sym e)).0)
written_one f r g s l m bare_star bare_star e = (refl, ap (drop 1) e)
written_one f r g s l m bare_star (escaped {front = front} j) e = absurd (heads_differ 42 92 r (front ++ s) (λ h. omega arith) e)
written_one f r g s l m (escaped {front = front} i) (plain {c = d} j q b t) e = absurd (b (ascii_first d 92 s (front ++ r) (omega arith) (sym e)).0)
written_one f r g s l m (escaped {front = front} i) bare_star e = absurd (heads_differ 92 42 (front ++ r) s (λ h. omega arith) e)
written_one f r g s l m (escaped {front = front} i) (escaped {front = back} j) e = escape_one front r back s l m i j (ap (drop 1) e)

pub written_some : (front : List ℕ) (letter : Letter) → IsWritten front letter → 0 < length front
written_some front letter (plain {c = c} i q b t) = let h = (len_utf8_bounds c).0 in omega (arith, length-encode c)
written_some front letter bare_star = omega arith
written_some front letter (escaped i) = omega arith

-- ---- many letters

pub written_more : (before front : List ℕ) (letters : List Letter) (letter : Letter) → AreWritten before letters → IsWritten front letter → AreWritten (before ++ front) (letters ++ letter ∷ [])
written_more _ front _ letter nothing w = subst (λ (xs : List ℕ). AreWritten xs (letter ∷ [])) (append-nil front) (more w nothing)
written_more _ front _ letter (more {front = f} {rest = r} {letter = l} {letters = ls} v a) w =
    subst (λ (xs : List ℕ). AreWritten xs (l ∷ (ls ++ letter ∷ []))) (sym (append_assoc f r front)) (more v (written_more r front ls letter a w))

pub no_letters : (f r : List ℕ) (letter : Letter) → IsWritten f letter → [] ≡ f ++ r → ⊥
no_letters f r letter w e = let some = written_some f letter w in omega (arith, length-append f r, ap length e)

-- what is left when the letters of a front are taken away
pub written_split : (before : List ℕ) (found : List Letter) (rest whole : List ℕ) (letters : List Letter) → AreWritten before found → AreWritten whole letters → whole ≡ before ++ rest
    → (left : List Letter) × AreWritten rest left × (letters ≡ found ++ left)
written_split _ _ rest whole letters nothing a e = (letters, subst (λ (xs : List ℕ). AreWritten xs letters) e a, refl)
written_split _ _ rest whole letters (more {front = f} {rest = r} {letter = l} {letters = ls} v b) nothing e = absurd (no_letters f (r ++ rest) l v (e ∙ append_assoc f r rest))
written_split _ _ rest whole letters (more {front = f} {rest = r} {letter = l} {letters = ls} v b) (more {front = g} {rest = s} {letter = m} {letters = ms} w a) e =
    let h = written_one f (r ++ rest) g s l m v w (sym (append_assoc f r rest) ∙ sym e) in
    let t = written_split r ls rest s ms b a (sym h.1) in
    (t.0, t.1, ap (λ (x : Letter). x ∷ ms) (sym h.0) ∙ ap (λ (xs : List Letter). l ∷ xs) t.2)
