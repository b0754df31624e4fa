-- The escape that the reader finds is the one of the grammar, and where it finds none there is none.
use Rattle.std.proofs.Common.{◌≡◌, refl, sym, ap, subst, ◌∙◌, ℕ, ◌+◌, ◌≤◌, ◌<◌, true, false, cond, eqb, ltb, ◌&&◌, ◌||◌, List, ◌∷◌, ◌++◌, length, take, drop, Option, Some, None, inl, inr, append_assoc, length-append, arith, []}
use Rattle.std.specs.Prelude.{slice_index}
use Rattle.std.specs.Char.{digit_value, IsScalar}
use Rattle.std.specs.List.{prefix_len, list_all}
use Rattle.std.proofs.lemmas.Bool.{cond_both, cond-true, and_parts, and_from, or_cases, eqb-true, eq-eqb, ltb-true, lt-ltb}
use Rattle.std.proofs.lemmas.List.{take_at, get_or_at}
use lib.Utf8.{scalar}
use Rattle.cedar_text.specs.declared.letter.Letter.{Letter}
use Rattle.cedar_text.specs.declared.letter.Letter.TheVariants.{Character, EscapedStar}
use Rattle.cedar_text.specs.Bytes.{is_hex, first}
use Rattle.cedar_text.specs.Numbers.{hexadecimal_from}
use Rattle.cedar_text.specs.Strings.{IsShort, line_feed, carriage_return, tab, backslash, null, apostrophe, quote, IsEscape, short, star, byte, character}
use Rattle.cedar_text.specs.Private.Lexing.{is_short, is_code, capped_hexadecimal_from, escape_len}
use Rattle.cedar_text.proofs.Runs.{run_of, IsRun, run_is, run_length}
use Rattle.cedar_text.proofs.Digits.{scalar_capped}

-- ---- an escape of the grammar is found

byte_again : (a b : ℕ) (rest : List ℕ) → list_all is_hex (a ∷ b ∷ []) ≡ true → hexadecimal_from 0 (a ∷ b ∷ []) ≤ 0x7F → escape_len (120 ∷ a ∷ b ∷ rest) ≡ Some 3
unfolding escape_len
byte_again a b rest h le =
    let p = and_parts (is_hex a) (is_hex b && true) h in
    let q = and_parts (is_hex b) true p.1 in
    cond-true (ltb (digit_value a) 8 && is_hex b) (Some 3) None (and_from (ltb (digit_value a) 8) (is_hex b) (lt-ltb (digit_value a) 8 (omega arith)) q.0)

code_from : (n : ℕ) (bs : List ℕ) → 1 ≤ n → n ≤ 6 → slice_index bs n ≡ 125 → scalar (capped_hexadecimal_from 0 (take n bs)) ≡ true → is_code n bs ≡ true
code_from n bs low high brace s =
    and_from (ltb 0 n && ltb n 7 && eqb (slice_index bs n) 125) (scalar (capped_hexadecimal_from 0 (take n bs)))
    (and_from (ltb 0 n && ltb n 7) (eqb (slice_index bs n) 125) (and_from (ltb 0 n) (ltb n 7) (lt-ltb 0 n (omega arith)) (lt-ltb n 7 (omega arith))) (eq-eqb (slice_index bs n) 125 brace)) s

code_at : (digits rest : List ℕ) → 1 ≤ length digits → length digits ≤ 6 → IsScalar (hexadecimal_from 0 digits) → is_code (length digits) (digits ++ 125 ∷ rest) ≡ true
code_at digits rest low high s =
    code_from (length digits) (digits ++ 125 ∷ rest) low high (get_or_at digits 125 rest 0 (length digits) refl)
    (ap (λ (xs : List ℕ). scalar (capped_hexadecimal_from 0 xs)) (take_at digits (125 ∷ rest) (length digits) refl) ∙ scalar_capped digits ∙ s)

abbrev code_len : List ℕ → Option ℕ
code_len bs = cond (is_code (prefix_len is_hex bs) bs) (Some (prefix_len is_hex bs + 3)) None

code_again : (digits rest : List ℕ) → list_all is_hex digits ≡ true → 1 ≤ length digits → length digits ≤ 6 → IsScalar (hexadecimal_from 0 digits)
    → code_len (digits ++ 125 ∷ rest) ≡ Some (length digits + 3)
code_again digits rest h low high s =
    ap (λ (n : ℕ). cond (is_code n (digits ++ 125 ∷ rest)) (Some (n + 3)) None) (run_of is_hex digits (125 ∷ rest) h refl)
    ∙ cond-true (is_code (length digits) (digits ++ 125 ∷ rest)) (Some (length digits + 3)) None (code_at digits rest low high s)

short_again : (b c : ℕ) (rest : List ℕ) → IsShort b c → escape_len (b ∷ rest) ≡ Some 1
unfolding escape_len
short_again b c rest line_feed = refl
short_again b c rest _ = refl

pub escape_again : (front rest : List ℕ) (letter : Letter) → IsEscape front letter → escape_len (front ++ rest) ≡ Some (length front)
unfolding escape_len
escape_again front rest letter (short {b = b} {c = c} s) = short_again b c rest s
escape_again front rest letter star = refl
escape_again front rest letter (byte {a = a} {b = b} h le) = byte_again a b rest h le
escape_again front rest letter (character digits h low high s) =
    let n : length digits + 3 ≡ length (117 ∷ 123 ∷ digits ++ 125 ∷ []) = omega (arith, length-append digits (125 ∷ [])) in
    ap code_len (append_assoc digits (125 ∷ []) rest) ∙ code_again digits rest h low high s ∙ ap (λ (k : ℕ). Some k) n

-- ---- what is found is an escape of the grammar

abbrev pub EscapeIs : List ℕ → Option ℕ → Type 0
EscapeIs bs None = Unit {0}
EscapeIs bs (Some n) = (front rest : List ℕ) × (letter : Letter) × (bs ≡ front ++ rest) × (length front ≡ n) × IsEscape front letter

false_is : false ≡ true → ⊥
false_is h = absurd cc

at : (P : ℕ → Type 0) (b n : ℕ) → eqb b n ≡ true → P n → P b
at P b n e h = subst P (sym (eqb-true b n e)) h

abbrev Lone : ℕ → Type 0
Lone b = (letter : Letter) × IsEscape (b ∷ []) letter

short_is : (b : ℕ) → is_short b ≡ true → Lone b
short_is b h =
    elim (or_cases (eqb b 110 || eqb b 114 || eqb b 116 || eqb b 92 || eqb b 48 || eqb b 39 || eqb b 34) (eqb b 42) h) [
      | inr e ↦ at Lone b 42 e (EscapedStar, star)
      | inl h ↦ elim (or_cases (eqb b 110 || eqb b 114 || eqb b 116 || eqb b 92 || eqb b 48 || eqb b 39) (eqb b 34) h) [
        | inr e ↦ at Lone b 34 e (Character 34, short quote)
        | inl h ↦ elim (or_cases (eqb b 110 || eqb b 114 || eqb b 116 || eqb b 92 || eqb b 48) (eqb b 39) h) [
          | inr e ↦ at Lone b 39 e (Character 39, short apostrophe)
          | inl h ↦ elim (or_cases (eqb b 110 || eqb b 114 || eqb b 116 || eqb b 92) (eqb b 48) h) [
            | inr e ↦ at Lone b 48 e (Character 0, short null)
            | inl h ↦ elim (or_cases (eqb b 110 || eqb b 114 || eqb b 116) (eqb b 92) h) [
              | inr e ↦ at Lone b 92 e (Character 92, short backslash)
              | inl h ↦ elim (or_cases (eqb b 110 || eqb b 114) (eqb b 116) h) [
                | inr e ↦ at Lone b 116 e (Character 9, short tab)
                | inl h ↦ elim (or_cases (eqb b 110) (eqb b 114) h) [
                  | inr e ↦ at Lone b 114 e (Character 13, short carriage_return)
                  | inl e ↦ at Lone b 110 e (Character 10, short line_feed)
                ]
              ]
            ]
          ]
        ]
      ]
    ]

first_short : (bs : List ℕ) → is_short (first bs) ≡ true → EscapeIs bs (Some 1)
first_short [] h = absurd (false_is h)
first_short (b ∷ bs) h = let i = short_is b h in (b ∷ [], bs, i.0, refl, refl, i.1)

byte_is : (bs : List ℕ) → eqb (first bs) 120 ≡ true → (ltb (digit_value (slice_index bs 1)) 8 && is_hex (slice_index bs 2)) ≡ true → EscapeIs bs (Some 3)
byte_is [] e h = absurd (false_is e)
byte_is (x ∷ []) e h = absurd (false_is h)
byte_is (x ∷ a ∷ []) e h = absurd (false_is (and_parts (ltb (digit_value a) 8) false h).1)
byte_is (x ∷ a ∷ b ∷ bs) e h =
    let p = and_parts (ltb (digit_value a) 8) (is_hex b) h in
    let small : digit_value a < 8 = ltb-true (digit_value a) 8 p.0 in
    let digit : digit_value b < 16 = ltb-true (digit_value b) 16 p.1 in
    let all : list_all is_hex (a ∷ b ∷ []) ≡ true = and_from (is_hex a) (is_hex b && true) (lt-ltb (digit_value a) 16 (omega arith)) (and_from (is_hex b) true p.1 refl) in
    at (λ (x : ℕ). EscapeIs (x ∷ a ∷ b ∷ bs) (Some 3)) x 120 e (120 ∷ a ∷ b ∷ [], bs, Character (hexadecimal_from 0 (a ∷ b ∷ [])), refl, refl, byte all (omega arith))

-- one to six digits of a character, and the brace after them
code_parts : (n : ℕ) (bs : List ℕ) → is_code n bs ≡ true → (0 < n) × (n < 7) × (slice_index bs n ≡ 125) × (scalar (capped_hexadecimal_from 0 (take n bs)) ≡ true)
code_parts n bs h =
    let p = and_parts (ltb 0 n && ltb n 7 && eqb (slice_index bs n) 125) (scalar (capped_hexadecimal_from 0 (take n bs))) h in
    let q = and_parts (ltb 0 n && ltb n 7) (eqb (slice_index bs n) 125) p.0 in
    let r = and_parts (ltb 0 n) (ltb n 7) q.0 in
    (ltb-true 0 n r.0, ltb-true n 7 r.1, eqb-true (slice_index bs n) 125 q.1, p.1)

brace_at : (xs : List ℕ) → slice_index xs 0 ≡ 125 → (rest : List ℕ) × (xs ≡ 125 ∷ rest)
brace_at [] e = absurd (omega arith)
brace_at (x ∷ xs) e = (xs, ap (λ (y : ℕ). y ∷ xs) e)

past_run : (digits more : List ℕ) (n : ℕ) → length digits ≡ n → slice_index (digits ++ more) n ≡ slice_index more 0
past_run [] more n e = ap (slice_index more) (sym e)
past_run (d ∷ digits) more n e = sym (ap (slice_index (d ∷ (digits ++ more))) e) ∙ past_run digits more (length digits) refl

code_is : (bs digits more : List ℕ) → bs ≡ digits ++ more → list_all is_hex digits ≡ true → is_code (length digits) (digits ++ more) ≡ true → EscapeIs (117 ∷ 123 ∷ bs) (Some (length digits + 3))
code_is bs digits more e all h =
    let p = code_parts (length digits) (digits ++ more) h in
    let b = brace_at more (sym (past_run digits more (length digits) refl) ∙ p.2) in
    let s : IsScalar (hexadecimal_from 0 digits) = sym (scalar_capped digits) ∙ sym (ap (λ (xs : List ℕ). scalar (capped_hexadecimal_from 0 xs)) (take_at digits more (length digits) refl)) ∙ p.3 in
    let whole : 117 ∷ 123 ∷ bs ≡ (117 ∷ 123 ∷ digits ++ 125 ∷ []) ++ b.0 =
    ap (λ (xs : List ℕ). 117 ∷ 123 ∷ xs) (e ∙ ap (λ (xs : List ℕ). digits ++ xs) b.1 ∙ sym (append_assoc digits (125 ∷ []) b.0)) in
    let low = p.0 in
    let high = p.1 in
    let n : length (117 ∷ 123 ∷ digits ++ 125 ∷ []) ≡ length digits + 3 = omega (arith, length-append digits (125 ∷ [])) in
    (117 ∷ 123 ∷ digits ++ 125 ∷ [], b.0, Character (hexadecimal_from 0 digits), whole, n, character digits all (omega arith) (omega arith) s)

code_run : (bs : List ℕ) (n : ℕ) → IsRun is_hex bs n → is_code n bs ≡ true → EscapeIs (117 ∷ 123 ∷ bs) (Some (n + 3))
code_run bs n r h =
    let l = run_length is_hex bs n r in
    let there : is_code (length (take n bs)) (take n bs ++ drop n bs) ≡ true = subst (λ (k : ℕ). is_code k (take n bs ++ drop n bs) ≡ true) (sym l) (subst (λ (xs : List ℕ). is_code n xs ≡ true) (sym r.whole) h) in
    subst (λ (k : ℕ). EscapeIs (117 ∷ 123 ∷ bs) (Some (k + 3))) l (code_is bs (take n bs) (drop n bs) (sym r.whole) r.passes there)

first_code : (bs : List ℕ) → (eqb (first bs) 117 && eqb (slice_index bs 1) 123 && is_code (prefix_len is_hex (drop 2 bs)) (drop 2 bs)) ≡ true → EscapeIs bs (Some (prefix_len is_hex (drop 2 bs) + 3))
first_code [] h = absurd (false_is h)
first_code (a ∷ []) h = absurd (false_is (and_parts (eqb a 117) false (and_parts (eqb a 117 && false) false h).0).1)
first_code (a ∷ b ∷ bs) h =
    let p = and_parts (eqb a 117 && eqb b 123) (is_code (prefix_len is_hex bs) bs) h in
    let q = and_parts (eqb a 117) (eqb b 123) p.0 in
    at (λ (x : ℕ). EscapeIs (x ∷ b ∷ bs) (Some (prefix_len is_hex bs + 3))) a 117 q.0
    (at (λ (y : ℕ). EscapeIs (117 ∷ y ∷ bs) (Some (prefix_len is_hex bs + 3))) b 123 q.1 (code_run bs (prefix_len is_hex bs) (run_is is_hex bs) p.1))

pub escape_is : (bs : List ℕ) → EscapeIs bs (escape_len bs)
unfolding escape_len
escape_is bs =
    let code = eqb (first bs) 117 && eqb (slice_index bs 1) 123 && is_code (prefix_len is_hex (drop 2 bs)) (drop 2 bs) in
    let pair = ltb (digit_value (slice_index bs 1)) 8 && is_hex (slice_index bs 2) in
    cond_both (is_short (first bs)) (Some 1) (cond (eqb (first bs) 120) (cond pair (Some 3) None) (cond code (Some (prefix_len is_hex (drop 2 bs) + 3)) None)) (EscapeIs bs) (first_short bs)
    (λ _. cond_both (eqb (first bs) 120) (cond pair (Some 3) None) (cond code (Some (prefix_len is_hex (drop 2 bs) + 3)) None) (EscapeIs bs)
    (λ e. cond_both pair (Some 3) None (EscapeIs bs) (byte_is bs e) (λ _. tt))
    (λ _. cond_both code (Some (prefix_len is_hex (drop 2 bs) + 3)) None (EscapeIs bs) (first_code bs) (λ _. tt)))

abbrev none : Option ℕ
none = None

nothing_found : (n : ℕ) → Some n ≡ none → ⊥
nothing_found n e = absurd cc

pub no_escape_is : (bs front rest : List ℕ) (letter : Letter) → escape_len bs ≡ None → bs ≡ front ++ rest → IsEscape front letter → ⊥
no_escape_is bs front rest letter e f i = nothing_found (length front) (sym (escape_again front rest letter i) ∙ sym (ap escape_len f) ∙ e)
