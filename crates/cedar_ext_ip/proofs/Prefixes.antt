-- The digits after a slash are those of the decimal number that they write.
use Rattle.std.proofs.Common.{◌≡◌, ℕ, ◌+◌, ◌-◌, ◌*◌, ◌/◌, ◌%◌, ◌<◌, ◌≤◌, Bool, true, false, not, ◌&&◌, nat_le, nat_eq, if◌then◌else◌, List, [], ◌∷◌, ◌++◌, Option, Some, None, option_and_then, decimal, refl, sym, ap, ◌∙◌, arith, inl, inr}
use Rattle.std.specs.Char.{is_ascii_digit}
use Rattle.std.proofs.lemmas.Bool.{cases_lt}
use Rattle.std.proofs.lemmas.Bool.Decides.{nat_tests}
use Rattle.std.proofs.lemmas.Fmt.{decimal_digit, decimal_step}
use Rattle.cedar_ext_ip.specs.IpOf.{digits_of, prefix_of}

decimal_two : (x y : ℕ) → 0 < x → x < 10 → y < 10 → decimal (x * 10 + y) ≡ (48 + x) ∷ (48 + y) ∷ []
decimal_two x y some p q =
    let front : (x * 10 + y) / 10 ≡ x = omega arith in
    let last : (x * 10 + y) % 10 ≡ y = omega arith in
    decimal_step (x * 10 + y) (omega arith) (omega arith)
    ∙ (λ i. decimal (front i) ++ (48 + last i) ∷ [])
    ∙ ap (λ (ds : List ℕ). ds ++ (48 + y) ∷ []) (decimal_digit x p)

decimal_three : (x y z : ℕ) → 0 < x → x < 10 → y < 10 → z < 10 → decimal (x * 100 + y * 10 + z) ≡ (48 + x) ∷ (48 + y) ∷ (48 + z) ∷ []
decimal_three x y z some p q r =
    let front : (x * 100 + y * 10 + z) / 10 ≡ x * 10 + y = omega arith in
    let last : (x * 100 + y * 10 + z) % 10 ≡ z = omega arith in
    decimal_step (x * 100 + y * 10 + z) (omega arith) (omega arith)
    ∙ (λ i. decimal (front i) ++ (48 + last i) ∷ [])
    ∙ ap (λ (ds : List ℕ). ds ++ (48 + z) ∷ []) (decimal_two x y some p q)

is_digit : (x : ℕ) → x < 10 → is_ascii_digit (48 + x) ≡ true
is_digit x h = grind (arith, nat_tests)

no_zero : (x : ℕ) → 0 < x → nat_eq (48 + x) 48 ≡ false
no_zero x h = grind (arith, nat_tests)

digits_of_one : (x : ℕ) → x < 10 → digits_of ((48 + x) ∷ []) ≡ Some x
digits_of_one x h =
    let back : 48 + x - 48 ≡ x = omega arith in
    rw (is_digit x h, back) refl

digits_of_two : (x y : ℕ) → 0 < x → x < 10 → y < 10 → digits_of ((48 + x) ∷ (48 + y) ∷ []) ≡ Some (x * 10 + y)
digits_of_two x y some p q =
    let a : 48 + x - 48 ≡ x = omega arith in
    let b : 48 + y - 48 ≡ y = omega arith in
    rw (is_digit x p, is_digit y q, no_zero x some, a, b) refl

digits_of_three : (x y z : ℕ) → 0 < x → x < 10 → y < 10 → z < 10 → digits_of ((48 + x) ∷ (48 + y) ∷ (48 + z) ∷ []) ≡ Some (x * 100 + y * 10 + z)
digits_of_three x y z some p q r =
    let a : 48 + x - 48 ≡ x = omega arith in
    let b : 48 + y - 48 ≡ y = omega arith in
    let c : 48 + z - 48 ≡ z = omega arith in
    rw (is_digit x p, is_digit y q, is_digit z r, no_zero x some, a, b, c) refl

digits_of-decimal : (n : ℕ) → n < 1000 → digits_of (decimal n) ≡ Some n
digits_of-decimal n small =
    elim (cases_lt n 10) [
      | inl one ↦ ap digits_of (decimal_digit n one) ∙ digits_of_one n one
      | inr more ↦ elim (cases_lt n 100) [
        | inl two ↦
            let x : ℕ = n / 10 in
            let y : ℕ = n % 10 in
            let sum : n ≡ x * 10 + y = omega arith in
            ap (λ (m : ℕ). digits_of (decimal m)) sum
            ∙ ap digits_of (decimal_two x y (omega arith) (omega arith) (omega arith))
            ∙ digits_of_two x y (omega arith) (omega arith) (omega arith)
            ∙ ap (λ (m : ℕ). Some m) (sym sum)
        | inr three ↦
            let x : ℕ = n / 100 in
            let y : ℕ = n / 10 % 10 in
            let z : ℕ = n % 10 in
            let sum : n ≡ x * 100 + y * 10 + z = omega arith in
            ap (λ (m : ℕ). digits_of (decimal m)) sum
            ∙ ap digits_of (decimal_three x y z (omega arith) (omega arith) (omega arith) (omega arith))
            ∙ digits_of_three x y z (omega arith) (omega arith) (omega arith) (omega arith)
            ∙ ap (λ (m : ℕ). Some m) (sym sum)
      ]
    ]

tested : (b : Bool) (m n : ℕ) → (if b then Some m else None) ≡ Some n → (b ≡ true) × (m ≡ n)
tested true m n e = (refl, cc)
tested false m n e = absurd (cc)

first_of_two : (a b : Bool) → (a && b) ≡ true → (a ≡ true) × (b ≡ true)
first_of_two true b e = (refl, e)
first_of_two false b e = absurd (cc)

digit_from : (c : ℕ) → is_ascii_digit c ≡ true → (48 ≤ c) × (c < 58)
digit_from c e =
    let low : 48 ≤ c = grind (arith, nat_tests) in
    let high : c < 58 = grind (arith, nat_tests) in
    (low, high)

not_zero : (c : ℕ) → 48 ≤ c → not (nat_eq c 48) ≡ true → 48 < c
not_zero c h e = grind (arith, nat_tests)

decimal-digits_of : (text : List ℕ) (n : ℕ) → digits_of text ≡ Some n → text ≡ decimal n
decimal-digits_of [] n e = absurd (cc)
decimal-digits_of (a ∷ []) n e =
    let t = tested (is_ascii_digit a) (a - 48) n e in
    let d = digit_from a t.0 in
    let x : a ≡ 48 + (a - 48) = omega (arith, d.0) in
    ap (λ (c : ℕ). c ∷ []) x ∙ sym (decimal_digit (a - 48) (omega (arith, d.1))) ∙ ap decimal t.1
decimal-digits_of (a ∷ b ∷ []) n e =
    let t = tested (is_ascii_digit a && is_ascii_digit b && not (nat_eq a 48)) ((a - 48) * 10 + (b - 48)) n e in
    let t₁ = first_of_two (is_ascii_digit a && is_ascii_digit b) (not (nat_eq a 48)) t.0 in
    let t₂ = first_of_two (is_ascii_digit a) (is_ascii_digit b) t₁.0 in
    let d = digit_from a t₂.0 in
    let f = digit_from b t₂.1 in
    let more = not_zero a d.0 t₁.1 in
    let x : a ≡ 48 + (a - 48) = omega (arith, d.0) in
    let y : b ≡ 48 + (b - 48) = omega (arith, f.0) in
    (λ i. x i ∷ y i ∷ []) ∙ sym (decimal_two (a - 48) (b - 48) (omega (arith, more)) (omega (arith, d.1)) (omega (arith, f.1))) ∙ ap decimal t.1
decimal-digits_of (a ∷ b ∷ c ∷ []) n e =
    let t = tested (is_ascii_digit a && is_ascii_digit b && is_ascii_digit c && not (nat_eq a 48)) ((a - 48) * 100 + (b - 48) * 10 + (c - 48)) n e in
    let t₁ = first_of_two (is_ascii_digit a && is_ascii_digit b && is_ascii_digit c) (not (nat_eq a 48)) t.0 in
    let t₂ = first_of_two (is_ascii_digit a && is_ascii_digit b) (is_ascii_digit c) t₁.0 in
    let t₃ = first_of_two (is_ascii_digit a) (is_ascii_digit b) t₂.0 in
    let d = digit_from a t₃.0 in
    let f = digit_from b t₃.1 in
    let g = digit_from c t₂.1 in
    let more = not_zero a d.0 t₁.1 in
    let x : a ≡ 48 + (a - 48) = omega (arith, d.0) in
    let y : b ≡ 48 + (b - 48) = omega (arith, f.0) in
    let z : c ≡ 48 + (c - 48) = omega (arith, g.0) in
    (λ i. x i ∷ y i ∷ z i ∷ [])
    ∙ sym (decimal_three (a - 48) (b - 48) (c - 48) (omega (arith, more)) (omega (arith, d.1)) (omega (arith, f.1)) (omega (arith, g.1)))
    ∙ ap decimal t.1
decimal-digits_of (a ∷ b ∷ c ∷ d ∷ text) n e = absurd (cc)

le_test : (m n : ℕ) → m ≤ n → nat_le m n ≡ true
le_test m n h = grind (arith, nat_tests)

le_from_test : (m n : ℕ) → nat_le m n ≡ true → m ≤ n
le_from_test m n e = grind (arith, nat_tests)

pub prefix_of-decimal : (width n : ℕ) → width < 1000 → n ≤ width → prefix_of width (decimal n) ≡ Some n
prefix_of-decimal width n small le =
    ap (λ (o : Option ℕ). option_and_then (λ m. if nat_le m width then Some m else None) o) (digits_of-decimal n (omega arith))
    ∙ (rw (le_test n width le) refl)

pub decimal-prefix_of : (width : ℕ) (text : List ℕ) (n : ℕ) → prefix_of width text ≡ Some n → (text ≡ decimal n) × (n ≤ width)
decimal-prefix_of width text n e = at (digits_of text) refl e
  where
    at : (o : Option ℕ) → digits_of text ≡ o → option_and_then (λ m. if nat_le m width then Some m else None) o ≡ Some n → (text ≡ decimal n) × (n ≤ width)
    at None read h = absurd (cc)
    at (Some m) read h =
        let t = tested (nat_le m width) m n h in
        let le : m ≤ width = le_from_test m width t.0 in
        (decimal-digits_of text m read ∙ ap decimal t.1, omega (arith, t.1))
