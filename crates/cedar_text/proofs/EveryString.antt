-- What stands between the quotes of a string token writes letters.
use Rattle.std.proofs.Common.{◌≡◌, ◌≢◌, refl, sym, ap, subst, ◌∙◌, ℕ, zero, suc, ◌≤◌, ◌<◌, true, List, [], ◌∷◌, ◌++◌, length, get_or, inl, inr, length-append, arith}
use Rattle.std.specs.Prelude.{encode_utf8}
use Rattle.std.specs.Char.{IsScalar}
use Rattle.std.specs.Str.{IsUtf8}
use Rattle.std.proofs.lemmas.Bool.{and_parts, cases_eq}
use Rattle.std.proofs.lemmas.List.{drop_at, get_or_append_left}
use Rattle.std.proofs.lemmas.Str.{encode_ascii, inside_one, IsUtf8-drop, length-encode, len_utf8_bounds}
use lib.Utf8.{scalar, scalars, encodes}
use Rattle.cedar_text.specs.declared.letter.Letter.{Letter}
use Rattle.cedar_text.specs.declared.letter.Letter.TheVariants.{Character, Star}
use Rattle.cedar_text.specs.Strings.{IsEscape}
use Rattle.cedar_text.specs.Strings as s
use Rattle.cedar_text.specs.Letters.{plain, bare_star, escaped, AreWritten, nothing, more, IsSpelled}
use Rattle.cedar_text.proofs.Boundaries.{ends_more}
use Rattle.cedar_text.proofs.Firsts.{escape_ends, ascii_boundary}

abbrev Written : List ℕ → Type 0
Written bytes = (letters : List Letter) × AreWritten bytes letters

-- the first character of a text
record Begins (text : List ℕ) : Type 0 where
  first : ℕ
  rest : List ℕ
  is : text ≡ encode_utf8 first ++ rest
  valid : IsScalar first
  utf8 : IsUtf8 rest

empty_text : (b : ℕ) (bs : List ℕ) → [] ≡ b ∷ bs → ⊥
empty_text b bs e = omega (arith, ap length e)

begins : (b : ℕ) (bs : List ℕ) → IsUtf8 (b ∷ bs) → Begins (b ∷ bs)
begins b bs u = by u.0 u.1.0 u.1.1
  where
    by : (cs : List ℕ) → scalars cs ≡ true → encodes cs ≡ b ∷ bs → Begins (b ∷ bs)
    by [] v e = absurd (empty_text b bs e)
    by (c ∷ cs) v e = let p = and_parts (scalar c) (scalars cs) v in record { first = c; rest = encodes cs; is = sym e; valid = p.0; utf8 = (cs, (p.1, refl)) }

-- bytes that are no backslash are passed one by one
one_passed : (b : ℕ) (bs : List ℕ) → b ≢ 92 → s.IsString (b ∷ bs) → s.IsString bs
one_passed b bs ne (s.plain q t i) = i
one_passed b bs ne (s.escape e i) = absurd (ne refl)

passed : (front rest : List ℕ) → ((k : ℕ) → k < length front → get_or front k 0 ≢ 92) → s.IsString (front ++ rest) → s.IsString rest
passed [] rest other i = i
passed (b ∷ front) rest other i = passed front rest (λ k lt. other (suc k) (omega arith)) (one_passed b (front ++ rest) (other 0 (omega arith)) i)

-- no byte of a character is one of ASCII but itself
no_ascii : (c a : ℕ) (rest : List ℕ) → a < 128 → c ≢ a → (k : ℕ) → k < length (encode_utf8 c) → get_or (encode_utf8 c) k 0 ≢ a
no_ascii c a rest small ne k lt e =
    let there : get_or (encode_utf8 c ++ rest) k 0 ≡ a = get_or_append_left (encode_utf8 c) rest 0 k lt ∙ e in
    ne (inside_one c rest (encode_utf8 c ++ rest) k refl lt (omega arith) ∙ there)

first_byte : (b : ℕ) (bs : List ℕ) (c a : ℕ) (rest : List ℕ) → a < 128 → b ∷ bs ≡ encode_utf8 c ++ rest → c ≡ a → b ≡ a
first_byte b bs c a rest small e f = ap (λ (xs : List ℕ). get_or xs 0 0) (e ∙ ap (λ (x : ℕ). encode_utf8 x ++ rest) f ∙ ap (λ (xs : List ℕ). xs ++ rest) (encode_ascii a small))

abbrev Shorter : ℕ → Type 0
Shorter most = (bytes : List ℕ) → length bytes ≤ most → IsUtf8 bytes → s.IsString bytes → Written bytes

-- a character that denotes itself
character_written : (c : ℕ) (rest : List ℕ) → IsScalar c → c ≢ 34 → c ≢ 92 → Written rest → Written (encode_utf8 c ++ rest)
character_written c rest valid q t w =
    elim (cases_eq c 42) [
      | inl e ↦
          let star : encode_utf8 c ≡ 42 ∷ [] = ap encode_utf8 e ∙ encode_ascii 42 (omega arith) in
          subst (λ (xs : List ℕ). Written (xs ++ rest)) (sym star) (Star ∷ w.0, more bare_star w.1)
      | inr ne ↦ (Character c ∷ w.0, more (plain valid q t ne) w.1)
    ]

plain_written : (most b : ℕ) (bs : List ℕ) → b ≢ 34 → b ≢ 92 → length bs ≤ most → IsUtf8 (b ∷ bs) → s.IsString (b ∷ bs) → Shorter most → Written (b ∷ bs)
plain_written most b bs q t le u i shorter =
    let h = begins b bs u in
    let c = h.first in
    let quote : h.first ≢ 34 = λ e. q (first_byte b bs h.first 34 h.rest (omega arith) h.is e) in
    let slash : h.first ≢ 92 = λ e. t (first_byte b bs h.first 92 h.rest (omega arith) h.is e) in
    let inner = passed (encode_utf8 h.first) h.rest (no_ascii h.first 92 h.rest (omega arith) slash) (subst s.IsString h.is i) in
    let some = (len_utf8_bounds h.first).0 in
    let short : length h.rest ≤ most = omega (arith, length-encode h.first, ap length h.is, length-append (encode_utf8 h.first) h.rest) in
    subst Written (sym h.is) (character_written h.first h.rest h.valid quote slash (shorter h.rest short h.utf8 inner))

escape_written : (most : ℕ) (front bs : List ℕ) (letter : Letter) → IsEscape front letter → length bs ≤ most → IsUtf8 (92 ∷ front ++ bs) → s.IsString bs → Shorter most → Written (92 ∷ front ++ bs)
escape_written most front bs letter e le u i shorter =
    let seam = ascii_boundary (92 ∷ front) bs (ends_more 92 front (escape_ends front letter e)) u in
    let rest = subst IsUtf8 (drop_at (92 ∷ front) bs (length (92 ∷ front)) refl) (IsUtf8-drop (92 ∷ front ++ bs) (length (92 ∷ front)) u seam) in
    let w = shorter bs le rest i in
    (letter ∷ w.0, more (escaped e) w.1)

within : (most : ℕ) (bytes : List ℕ) → length bytes ≤ most → IsUtf8 bytes → s.IsString bytes → Written bytes
within most bytes le u s.empty = ([], nothing)
within zero bytes le u (s.plain q t i) = absurd (omega arith)
within (suc most) _ le u (s.plain {b = b} {bs = bs} q t i) = plain_written most b bs q t (omega arith) u (s.plain q t i) (within most)
within zero bytes le u (s.escape e i) = absurd (omega arith)
within (suc most) _ le u (s.escape {front = front} {bs = bs} {letter = letter} e i) = escape_written most front bs letter e (omega (arith, length-append front bs)) u i (within most)

pub every_string_by : (inner : List ℕ) → IsUtf8 inner → s.IsString inner → (letters : List Letter) × IsSpelled (34 ∷ inner ++ 34 ∷ []) letters
every_string_by inner u i = let w = within (length inner) inner (omega arith) u i in (w.0, (inner, refl, w.1))

-- What writes no letters is not a string.
pub no_string_stuck : (text inner : List ℕ) → IsUtf8 inner → text ≡ 34 ∷ inner ++ 34 ∷ [] → ((letters : List Letter) → IsSpelled text letters → ⊥) → s.IsString inner → ⊥
no_string_stuck text inner u e none i = let w = every_string_by inner u i in none w.0 (subst (λ (x : List ℕ). IsSpelled x w.0) (sym e) w.1)
