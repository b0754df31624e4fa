-- Bytes of tokens: where the runs and strings that are cut from a text end.
use Rattle.std.proofs.Common.{◌≡◌, ℕ, zero, suc, ◌+◌, ◌-◌, ◌<◌, ◌≤◌, Bool, true, false, ◌&&◌, ◌||◌, cond, eqb, leb, List, [], ◌∷◌, length, get_or, drop, Option, Some, None, option_map, refl, sym, ap, subst, ◌∙◌, one-add, arith, inl, inr}
use Rattle.std.specs.Prelude.{slice_index}
use Rattle.std.specs.List.{prefix_len}
use Rattle.std.specs.Str.{IsUtf8, IsCharBoundary}
use Rattle.std.proofs.lemmas.Str.{IsCharBoundary-after_ascii}
use Rattle.std.proofs.lemmas.Bool.{cond_both, cond-true, cond-false, and_parts, or_left, or_cases, not-false, eqb-true, leb-true}
use Rattle.std.proofs.lemmas.List.{at_drop_more, at_drop_all}
use Rattle.cedar_text.specs.Bytes.{is_letter, is_digit, is_word, ends_line, goes_on_line}
use Rattle.cedar_schema_text.specs.Tokens.{string_end, closes, escapes}

-- a run ends before a byte that is not of it
pub run_stops : (p : ℕ → Bool) (bs : List ℕ) → prefix_len p bs < length bs → p (slice_index bs (prefix_len p bs)) ≡ false
run_stops p [] lt = absurd (omega arith)
run_stops p (b ∷ bs) lt =
    cond_both (p b) (1 + prefix_len p bs) 0 (λ n. n < length (b ∷ bs) → p (slice_index (b ∷ bs) n) ≡ false)
    (λ e. subst (λ n. n < length (b ∷ bs) → p (slice_index (b ∷ bs) n) ≡ false) (sym (one-add (prefix_len p bs))) (λ more. run_stops p bs (omega arith))) (λ e more. e) lt

run_within : (p : ℕ → Bool) (bs : List ℕ) → prefix_len p bs ≤ length bs
run_within p [] = omega arith
run_within p (b ∷ bs) = let w = run_within p bs in cond_both (p b) (1 + prefix_len p bs) 0 (λ n. n ≤ length (b ∷ bs)) (λ e. omega arith) (λ e. omega arith)

-- each byte of a run is of it
pub run_last : (p : ℕ → Bool) (bs : List ℕ) (i : ℕ) → i < prefix_len p bs → p (slice_index bs i) ≡ true
run_last p [] i lt = absurd (omega arith)
run_last p (b ∷ bs) zero lt = cond_both (p b) (1 + prefix_len p bs) 0 (λ n. 0 < n → p b ≡ true) (λ e more. e) (λ e more. absurd (omega arith)) lt
run_last p (b ∷ bs) (suc i) lt = cond_both (p b) (1 + prefix_len p bs) 0 (λ n. suc i < n → p (slice_index bs i) ≡ true) (λ e more. run_last p bs i (omega arith)) (λ e more. absurd (omega arith)) lt

between : (low b high : ℕ) → (leb low b && leb b high) ≡ true → (low ≤ b) × (b ≤ high)
between low b high h = let q = and_parts (leb low b) (leb b high) h in (leb-true low b q.0, leb-true b high q.1)

letter_bounds : (b : ℕ) → is_letter b ≡ true → (65 ≤ b) × (b ≤ 122)
letter_bounds b h =
    elim (or_cases ((leb 97 b && leb b 122) || (leb 65 b && leb b 90)) (eqb b 95) h) [
      | inl g ↦ elim (or_cases (leb 97 b && leb b 122) (leb 65 b && leb b 90) g) [
        | inl p ↦ let q = between 97 b 122 p in (omega arith, omega arith)
        | inr p ↦ let q = between 65 b 90 p in (omega arith, omega arith)
      ]
      | inr e ↦ let q = eqb-true b 95 e in (omega arith, omega arith)
    ]

-- a byte of a word is ASCII
word_ascii : (b : ℕ) → is_word b ≡ true → b < 128
word_ascii b h = elim (or_cases (is_letter b) (is_digit b) h) [ inl e ↦ let q = letter_bounds b e in omega arith | inr e ↦ let q = between 48 b 57 e in omega arith ]

-- the last byte of a word is ASCII
pub word_ends : (bs : List ℕ) → 0 < length bs → is_letter (slice_index bs 0) ≡ true → slice_index bs (prefix_len is_word bs - 1) < 128
word_ends [] some letter = absurd (omega arith)
word_ends (b ∷ bs) some letter =
    let first = or_left (is_letter b) (is_digit b) letter in
    let more : 0 < prefix_len is_word (b ∷ bs) = subst (λ (n : ℕ). 0 < n) (sym (cond-true (is_word b) (1 + prefix_len is_word bs) 0 first)) (omega arith) in
    word_ascii _ (run_last is_word (b ∷ bs) (prefix_len is_word (b ∷ bs) - 1) (omega arith))

line_end : (b : ℕ) → goes_on_line b ≡ false → b < 128
line_end b h = elim (or_cases (eqb b 10) (eqb b 13) (not-false (ends_line b) h)) [ inl e ↦ let q = eqb-true b 10 e in omega arith | inr e ↦ let q = eqb-true b 13 e in omega arith ]

-- a character begins where a comment ends
pub line_ends : (bs : List ℕ) (n : ℕ) → n ≡ prefix_len goes_on_line bs → 0 < n → (n ≤ length bs) × (n < length bs → 128 ≤ slice_index bs n → 192 ≤ slice_index bs n)
line_ends bs n e = subst (λ (m : ℕ). 0 < m → (m ≤ length bs) × (m < length bs → 128 ≤ slice_index bs m → 192 ≤ slice_index bs m)) (sym e) (λ some. (
  run_within goes_on_line bs,
  λ within high. absurd (let low : slice_index bs (prefix_len goes_on_line bs) < 128 = line_end _ (run_stops goes_on_line bs within) in omega arith),
))

-- a character begins after a byte of ASCII
pub token_ends : (bs : List ℕ) (n : ℕ) → 0 < n → n ≤ length bs → slice_index bs (n - 1) < 128 → IsUtf8 bs → IsCharBoundary bs n
token_ends bs n some within ascii utf8 = let e : n - 1 + 1 ≡ n = omega arith in subst (IsCharBoundary bs) e (IsCharBoundary-after_ascii bs (n - 1) utf8 (omega arith) ascii)

-- ---- the end of a string, byte by byte

pub end_step : (escaped : Bool) (bs : List ℕ) (at b : ℕ) → at < length bs → get_or bs at 0 ≡ b
    → string_end escaped (drop at bs) ≡ cond (closes escaped b) (Some 1) (option_map (λ n. n + 1) (string_end (escapes escaped b) (drop (at + 1) bs)))
unfolding string_end
end_step escaped bs at b lt e =
    at_drop_more (string_end escaped) bs at 0 lt ∙ ap (λ (x : ℕ). cond (closes escaped x) (Some 1) (option_map (λ n. n + 1) (string_end (escapes escaped x) (drop (at + 1) bs)))) e

later : (at : ℕ) (o : Option ℕ) → option_map (λ n. n + at) (option_map (λ n. n + 1) o) ≡ option_map (λ n. n + (at + 1)) o
later at None = refl
later at (Some n) = let e : n + 1 + at ≡ n + (at + 1) = omega arith in ap (λ (m : ℕ). Some m) e

pub end_goes_on : (escaped : Bool) (bs : List ℕ) (at b : ℕ) (total : Option ℕ) → at < length bs → get_or bs at 0 ≡ b → closes escaped b ≡ false
    → total ≡ option_map (λ n. n + at) (string_end escaped (drop at bs)) → total ≡ option_map (λ n. n + (at + 1)) (string_end (escapes escaped b) (drop (at + 1) bs))
end_goes_on escaped bs at b total lt e goes h =
    h ∙ ap (option_map (λ n. n + at)) (end_step escaped bs at b lt e ∙ cond-false _ _ _ goes) ∙ later at _

pub end_here : (escaped : Bool) (bs : List ℕ) (at b : ℕ) (total : Option ℕ) → at < length bs → get_or bs at 0 ≡ b → closes escaped b ≡ true
    → total ≡ option_map (λ n. n + at) (string_end escaped (drop at bs)) → total ≡ Some (at + 1)
end_here escaped bs at b total lt e here h =
    h ∙ ap (option_map (λ n. n + at)) (end_step escaped bs at b lt e ∙ cond-true _ _ _ here) ∙ (let s : 1 + at ≡ at + 1 = omega arith in ap (λ (m : ℕ). Some m) s)

pub end_nowhere : (escaped : Bool) (bs : List ℕ) (at : ℕ) (total : Option ℕ) → length bs ≤ at → total ≡ option_map (λ n. n + at) (string_end escaped (drop at bs)) → total ≡ None
unfolding string_end
end_nowhere escaped bs at total le h = h ∙ ap (option_map (λ n. n + at)) (at_drop_all (string_end escaped) bs at le)
