-- The white space that the reader finds is that of the grammar.
use Rattle.std.proofs.Common.{◌≡◌, refl, sym, ap, subst, ◌∙◌, ℕ, zero, suc, ◌+◌, ◌-◌, ◌/◌, ◌%◌, ◌≤◌, ◌<◌, Bool, true, false, cond, eqb, leb, ltb, ◌&&◌, ◌||◌, List, ◌∷◌, ◌++◌, length, inl, inr, arith, []}
use Rattle.std.specs.Prelude.{encode_utf8, slice_index}
use Rattle.std.proofs.lemmas.Bool.{cond_both, cond-true, cond-false, and_parts, and_from, and_right, or_from, or_left, or_right, or_cases, eqb-true, leb-true, le-leb, le-ltb, lt-ltb}
use Rattle.std.proofs.lemmas.Str.{encode_ascii}
use lib.Utf8.{encode, next}
use Rattle.cedar_text.specs.Blanks.{IsWhite, control, space, next_line, no_break_space, ogham_space, typographic, line_separator, paragraph_separator, narrow_space, mathematical_space, ideographic_space}
use Rattle.cedar_text.specs.Private.Lexing.{is_white_pair, is_white_triple, white_len}

pub between : (low b high : ℕ) → (leb low b && leb b high) ≡ true → (low ≤ b) × (b ≤ high)
between low b high h = let q = and_parts (leb low b) (leb b high) h in (leb-true low b q.0, leb-true b high q.1)

-- ---- white space of the grammar is found

-- the spaces from U+2000 to U+200A
encode_typographic : (d : ℕ) → d ≤ 10 → encode_utf8 (0x2000 + d) ≡ 0xE2 ∷ 0x80 ∷ (0x80 + d) ∷ []
unfolding encode
encode_typographic d le =
    let c = 0x2000 + d in
    let long : List ℕ = (240 + c / 262144) ∷ next (c / 4096) ∷ next (c / 64) ∷ next c ∷ [] in
    let three : List ℕ = (224 + c / 4096) ∷ next (c / 64) ∷ next c ∷ [] in
    let two : List ℕ = (192 + c / 64) ∷ next c ∷ [] in
    let a : 224 + (0x2000 + d) / 4096 ≡ 0xE2 = omega arith in
    let b : 128 + ((0x2000 + d) / 64) % 64 ≡ 0x80 = omega arith in
    let e : 128 + (0x2000 + d) % 64 ≡ 0x80 + d = omega arith in
    cond-false (ltb (0x2000 + d) 128) ((0x2000 + d) ∷ []) (cond (ltb (0x2000 + d) 2048) two (cond (ltb (0x2000 + d) 65536) three long)) (le-ltb (0x2000 + d) 128 (omega arith))
    ∙ cond-false (ltb (0x2000 + d) 2048) two (cond (ltb (0x2000 + d) 65536) three long) (le-ltb (0x2000 + d) 2048 (omega arith))
    ∙ cond-true (ltb (0x2000 + d) 65536) three long (lt-ltb (0x2000 + d) 65536 (omega arith))
    ∙ ap (λ (x : ℕ). x ∷ next ((0x2000 + d) / 64) ∷ next (0x2000 + d) ∷ []) a ∙ ap (λ (x : ℕ). 0xE2 ∷ x ∷ next (0x2000 + d) ∷ []) b ∙ ap (λ (x : ℕ). 0xE2 ∷ 0x80 ∷ x ∷ []) e

-- the white space of this length comes first
abbrev Found : ℕ → List ℕ → ℕ → Type 0
Found c rest n = (white_len (encode_utf8 c ++ rest) ≡ n) × (length (encode_utf8 c) ≡ n)

ascii_found : (c : ℕ) (rest : List ℕ) → c < 128 → white_len (c ∷ rest) ≡ 1 → Found c rest 1
ascii_found c rest lt w =
    subst (λ (xs : List ℕ). (white_len (xs ++ rest) ≡ 1) × (length xs ≡ 1)) (sym (encode_ascii c lt)) (w, refl)

abbrev is_third : ℕ → Bool
is_third c = (leb 0x80 c && leb c 0x8A) || eqb c 0xA8 || eqb c 0xA9 || eqb c 0xAF

third_found : (c : ℕ) (rest : List ℕ) → is_third c ≡ true → white_len (0xE2 ∷ 0x80 ∷ c ∷ rest) ≡ 3
third_found c rest h = cond-true ((is_third c || false) || false) 3 0 (or_left (is_third c || false) false (or_left (is_third c) false h))

typographic_found : (d : ℕ) (rest : List ℕ) → d ≤ 10 → Found (0x2000 + d) rest 3
typographic_found d rest le =
    let low : leb 0x80 (0x80 + d) ≡ true = le-leb 0x80 (0x80 + d) (omega arith) in
    let high : leb (0x80 + d) 0x8A ≡ true = le-leb (0x80 + d) 0x8A (omega arith) in
    let range = and_from (leb 0x80 (0x80 + d)) (leb (0x80 + d) 0x8A) low high in
    let third : is_third (0x80 + d) ≡ true =
    or_left ((leb 0x80 (0x80 + d) && leb (0x80 + d) 0x8A) || eqb (0x80 + d) 0xA8 || eqb (0x80 + d) 0xA9) (eqb (0x80 + d) 0xAF)
    (or_left ((leb 0x80 (0x80 + d) && leb (0x80 + d) 0x8A) || eqb (0x80 + d) 0xA8) (eqb (0x80 + d) 0xA9) (or_left (leb 0x80 (0x80 + d) && leb (0x80 + d) 0x8A) (eqb (0x80 + d) 0xA8) range)) in
    subst (λ (xs : List ℕ). (white_len (xs ++ rest) ≡ 3) × (length xs ≡ 3)) (sym (encode_typographic d le)) (third_found (0x80 + d) rest third, refl)

pub white_again : (c : ℕ) (rest : List ℕ) → IsWhite c → (n : ℕ) × (0 < n) × Found c rest n
unfolding encode
white_again _ rest (control c low high) =
    (1, omega arith, ascii_found c rest (omega arith) (cond-true (eqb c 32 || (leb 9 c && leb c 13)) _ _ (or_right (eqb c 32) (leb 9 c && leb c 13) (and_from (leb 9 c) (leb c 13) (le-leb 9 c low) (le-leb c 13 high)))))
white_again _ rest space = (1, omega arith, ascii_found 32 rest (omega arith) refl)
white_again _ rest next_line = (2, omega arith, (refl, refl))
white_again _ rest no_break_space = (2, omega arith, (refl, refl))
white_again _ rest (typographic c low high) =
    let e : 0x2000 + (c - 0x2000) ≡ c = omega arith in
    (3, omega arith, subst (λ (x : ℕ). Found x rest 3) e (typographic_found (c - 0x2000) rest (omega arith)))
white_again _ rest _ = (3, omega arith, (refl, refl))

-- ---- what is found is white space of the grammar

-- a white character of this many bytes comes first
abbrev pub WhiteIs : List ℕ → ℕ → Type 0
WhiteIs bs zero = Unit {0}
WhiteIs bs (suc n) = (c : ℕ) × (rest : List ℕ) × IsWhite c × (bs ≡ encode_utf8 c ++ rest) × (length (encode_utf8 c) ≡ suc n)

false_is : false ≡ true → ⊥
false_is h = absurd cc

at : (P : ℕ → Type 0) (b n : ℕ) → eqb b n ≡ true → P n → P b
at P b n e h = subst P (sym (eqb-true b n e)) h

ascii_is : (a : ℕ) (bs : List ℕ) → (eqb a 32 || (leb 9 a && leb a 13)) ≡ true → WhiteIs (a ∷ bs) 1
ascii_is a bs h =
    let small : (a < 128) × IsWhite a = elim (or_cases (eqb a 32) (leb 9 a && leb a 13) h) [
      | inl e ↦ let q = eqb-true a 32 e in (omega arith, subst IsWhite (sym q) space)
      | inr e ↦ let q = between 9 a 13 e in (omega arith, control a q.0 q.1)
    ] in
    let e = encode_ascii a small.0 in
    (a, bs, small.1, ap (λ (xs : List ℕ). xs ++ bs) (sym e), ap length e)

pair_is : (a b : ℕ) (bs : List ℕ) → is_white_pair a b ≡ true → WhiteIs (a ∷ b ∷ bs) 2
unfolding encode
pair_is a b bs h =
    let p = and_parts (eqb a 0xC2) (eqb b 0x85 || eqb b 0xA0) h in
    at (λ (x : ℕ). WhiteIs (x ∷ b ∷ bs) 2) a 0xC2 p.0 (elim (or_cases (eqb b 0x85) (eqb b 0xA0) p.1) [
      | inl e ↦ at (λ (x : ℕ). WhiteIs (0xC2 ∷ x ∷ bs) 2) b 0x85 e (0x85, bs, next_line, refl, refl)
      | inr e ↦ at (λ (x : ℕ). WhiteIs (0xC2 ∷ x ∷ bs) 2) b 0xA0 e (0xA0, bs, no_break_space, refl, refl)
    ])

abbrev Third : List ℕ → ℕ → Type 0
Third bs c = WhiteIs (0xE2 ∷ 0x80 ∷ c ∷ bs) 3

typographic_is : (c : ℕ) (bs : List ℕ) → 0x80 ≤ c → c ≤ 0x8A → Third bs c
typographic_is c bs low high =
    let d = c - 0x80 in
    let e : 0x80 + d ≡ c = omega arith in
    let le : d ≤ 10 = omega arith in
    let f = encode_typographic d le in
    subst (Third bs) e (0x2000 + d, bs, typographic (0x2000 + d) (omega arith) (omega arith), ap (λ (xs : List ℕ). xs ++ bs) (sym f), ap length f)

third_is : (c : ℕ) (bs : List ℕ) → is_third c ≡ true → Third bs c
unfolding encode
third_is c bs h =
    elim (or_cases ((leb 0x80 c && leb c 0x8A) || eqb c 0xA8 || eqb c 0xA9) (eqb c 0xAF) h) [
      | inr e ↦ at (Third bs) c 0xAF e (0x202F, bs, narrow_space, refl, refl)
      | inl h ↦ elim (or_cases ((leb 0x80 c && leb c 0x8A) || eqb c 0xA8) (eqb c 0xA9) h) [
        | inr e ↦ at (Third bs) c 0xA9 e (0x2029, bs, paragraph_separator, refl, refl)
        | inl h ↦ elim (or_cases (leb 0x80 c && leb c 0x8A) (eqb c 0xA8) h) [
          | inr e ↦ at (Third bs) c 0xA8 e (0x2028, bs, line_separator, refl, refl)
          | inl e ↦ let q = between 0x80 c 0x8A e in typographic_is c bs q.0 q.1
        ]
      ]
    ]

-- three bytes that are these
are_three : (a b c x y z : ℕ) (bs : List ℕ) → (eqb a x && eqb b y && eqb c z) ≡ true → WhiteIs (x ∷ y ∷ z ∷ bs) 3 → WhiteIs (a ∷ b ∷ c ∷ bs) 3
are_three a b c x y z bs h w =
    let p = and_parts (eqb a x && eqb b y) (eqb c z) h in
    let q = and_parts (eqb a x) (eqb b y) p.0 in
    at (λ (i : ℕ). WhiteIs (i ∷ b ∷ c ∷ bs) 3) a x q.0 (at (λ (i : ℕ). WhiteIs (x ∷ i ∷ c ∷ bs) 3) b y q.1 (at (λ (i : ℕ). WhiteIs (x ∷ y ∷ i ∷ bs) 3) c z p.1 w))

triple_is : (a b c : ℕ) (bs : List ℕ) → is_white_triple a b c ≡ true → WhiteIs (a ∷ b ∷ c ∷ bs) 3
unfolding encode
triple_is a b c bs h =
    let ogham = eqb a 0xE1 && eqb b 0x9A && eqb c 0x80 in
    let general = eqb a 0xE2 && eqb b 0x80 && is_third c in
    let mathematical = eqb a 0xE2 && eqb b 0x81 && eqb c 0x9F in
    let ideographic = eqb a 0xE3 && eqb b 0x80 && eqb c 0x80 in
    elim (or_cases (ogham || general || mathematical) ideographic h) [
      | inr e ↦ are_three a b c 0xE3 0x80 0x80 bs e (0x3000, bs, ideographic_space, refl, refl)
      | inl h ↦ elim (or_cases (ogham || general) mathematical h) [
        | inr e ↦ are_three a b c 0xE2 0x81 0x9F bs e (0x205F, bs, mathematical_space, refl, refl)
        | inl h ↦ elim (or_cases ogham general h) [
          | inl e ↦ are_three a b c 0xE1 0x9A 0x80 bs e (0x1680, bs, ogham_space, refl, refl)
          | inr e ↦
              let p = and_parts (eqb a 0xE2 && eqb b 0x80) (is_third c) e in
              let q = and_parts (eqb a 0xE2) (eqb b 0x80) p.0 in
              at (λ (x : ℕ). WhiteIs (x ∷ b ∷ c ∷ bs) 3) a 0xE2 q.0 (at (λ (x : ℕ). WhiteIs (0xE2 ∷ x ∷ c ∷ bs) 3) b 0x80 q.1 (third_is c bs p.1))
        ]
      ]
    ]

-- bytes that are missing are no part of white space
pair_by : (a : ℕ) (bs : List ℕ) → is_white_pair a (slice_index (a ∷ bs) 1) ≡ true → WhiteIs (a ∷ bs) 2
pair_by a [] h = absurd (false_is (and_parts (eqb a 0xC2) false h).1)
pair_by a (b ∷ bs) h = pair_is a b bs h

no_triple : (a b : ℕ) → is_white_triple a b 0 ≡ false
no_triple a b =
    or_from (((eqb a 0xE1 && eqb b 0x9A) && false) || ((eqb a 0xE2 && eqb b 0x80) && false) || ((eqb a 0xE2 && eqb b 0x81) && false)) ((eqb a 0xE3 && eqb b 0x80) && false)
    (or_from (((eqb a 0xE1 && eqb b 0x9A) && false) || ((eqb a 0xE2 && eqb b 0x80) && false)) ((eqb a 0xE2 && eqb b 0x81) && false)
    (or_from ((eqb a 0xE1 && eqb b 0x9A) && false) ((eqb a 0xE2 && eqb b 0x80) && false) (and_right (eqb a 0xE1 && eqb b 0x9A) false refl) (and_right (eqb a 0xE2 && eqb b 0x80) false refl))
    (and_right (eqb a 0xE2 && eqb b 0x81) false refl))
    (and_right (eqb a 0xE3 && eqb b 0x80) false refl)

triple_by : (a : ℕ) (bs : List ℕ) → is_white_triple a (slice_index (a ∷ bs) 1) (slice_index (a ∷ bs) 2) ≡ true → WhiteIs (a ∷ bs) 3
triple_by a [] h = absurd (false_is (sym (no_triple a 0) ∙ h))
triple_by a (b ∷ []) h = absurd (false_is (sym (no_triple a b) ∙ h))
triple_by a (b ∷ c ∷ bs) h = triple_is a b c bs h

pub white_is : (a : ℕ) (bs : List ℕ) → WhiteIs (a ∷ bs) (white_len (a ∷ bs))
white_is a bs =
    let pair = is_white_pair a (slice_index (a ∷ bs) 1) in
    let triple = is_white_triple a (slice_index (a ∷ bs) 1) (slice_index (a ∷ bs) 2) in
    cond_both (eqb a 32 || (leb 9 a && leb a 13)) 1 (cond pair 2 (cond triple 3 0)) (λ (n : ℕ). WhiteIs (a ∷ bs) n) (ascii_is a bs)
    (λ _. cond_both pair 2 (cond triple 3 0) (λ (n : ℕ). WhiteIs (a ∷ bs) n) (pair_by a bs) (λ _. cond_both triple 3 0 (λ (n : ℕ). WhiteIs (a ∷ bs) n) (triple_by a bs) (λ _. tt)))
