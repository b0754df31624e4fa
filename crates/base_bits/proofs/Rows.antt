-- Rows that change.
use Rattle.std.proofs.Common.{◌≡◌, ℕ, zero, suc, ◌⊎◌, ◌*◌, ◌/◌, ◌%◌, ◌^◌, ◌<◌, ◌≤◌, Bool, true, false, ◌||◌, nat_eq, List, length, get_or, set, bit_or, max, w64, inl, inr, refl, sym, ap, ap₂, ◌∙◌, arith, get_or-set_same, get_or-set_other, eq-eqb}
use Rattle.std.specs.Int.{bit_at}
use Rattle.std.proofs.lemmas.Bool.{cases_eq, cases_lt, ne_eqb}
use Rattle.std.proofs.lemmas.List.{get_or_past}
use Rattle.std.proofs.lemmas.Nat.{or_disjoint, and_le_r}
use Rattle.std.proofs.lemmas.Nat.Bits.{bit_at_or, bit_at-lt, bit_at_set_same, bit_at_set_other}
use Rattle.base_bits.specs.Bits.{has_bit}

abbrev pub SameWords : List ℕ → List ℕ → Type 0
SameWords a b = (k : ℕ) → get_or b k 0 ≡ get_or a k 0

pub same_bits : (a b : List ℕ) → SameWords a b → (m : ℕ) → has_bit b m ≡ has_bit a m
same_bits a b same m = ap (λ w. nat_eq (bit_at w (m % 64)) 1) (same (m / 64))

pub grown : (a b : List ℕ) (n : ℕ) → length a ≤ n → length b ≡ n → ((k : ℕ) (d : ℕ) → k < n → k < length a → get_or b k d ≡ get_or a k d) → ((k : ℕ) (d : ℕ) → length a ≤ k → k < n → get_or b k d ≡ 0) → SameWords a b
grown a b n more long kept fresh k =
    elim (cases_lt k n) [
      | inl below ↦ elim (cases_lt k (length a)) [ inl old ↦ kept k 0 below old | inr new ↦ fresh k 0 new below ∙ sym (get_or_past a k 0 new) ]
      | inr past ↦ get_or_past b k 0 (omega arith) ∙ sym (get_or_past a k 0 (omega arith))
    ]

or_true : (b : Bool) → true ≡ (b || true)
or_true true = refl
or_true false = refl

or_false : (b : Bool) → b ≡ (b || false)
or_false true = refl
or_false false = refl

abbrev pub with_bit : List ℕ → ℕ → List ℕ
with_bit a n = set a (n / 64) (bit_or (get_or a (n / 64) 0) (1 * 2 ^ (n % 64) % 2 ^ 64))

pub has_bit-with_bit : (a : List ℕ) (n : ℕ) → n / 64 < length a → (m : ℕ) → has_bit (with_bit a n) m ≡ (has_bit a m || nat_eq n m)
has_bit-with_bit a n within m =
    let new = bit_or (get_or a (n / 64) 0) (1 * 2 ^ (n % 64) % 2 ^ 64) in
    elim (cases_eq (m / 64) (n / 64)) [
      | inl here ↦ (let read : get_or (with_bit a n) (m / 64) 0 ≡ new = ap (λ k. get_or (with_bit a n) k 0) here ∙ get_or-set_same a (n / 64) new 0 within in elim (cases_eq (m % 64) (n % 64)) [
        | inl same ↦ (let equal : n ≡ m = omega arith in
            ap₂ (λ w t. nat_eq (bit_at w t) 1) read same ∙ ap (λ b. nat_eq b 1) (bit_at_set_same w64 (get_or a (n / 64) 0) (n % 64) (omega arith)) ∙ or_true (has_bit a m) ∙ ap (λ b. has_bit a m || b) (sym (eq-eqb n m equal)))
        | inr other ↦ (let differ : n ≡ m → ⊥ = λ e. other (ap (λ x. x % 64) (sym e)) in
            ap (λ w. nat_eq (bit_at w (m % 64)) 1) read ∙ ap (λ b. nat_eq b 1) (bit_at_set_other w64 (get_or a (n / 64) 0) (n % 64) (omega arith) (m % 64) other) ∙ ap (λ k. nat_eq (bit_at (get_or a k 0) (m % 64)) 1) (sym here) ∙ or_false (has_bit a m) ∙ ap (λ b. has_bit a m || b) (sym (ne_eqb n m differ)))
      ])
      | inr apart ↦ (let differ : n ≡ m → ⊥ = λ e. apart (ap (λ x. x / 64) (sym e)) in
          ap (λ w. nat_eq (bit_at w (m % 64)) 1) (get_or-set_other a (n / 64) (m / 64) new 0 apart) ∙ or_false (has_bit a m) ∙ ap (λ b. has_bit a m || b) (sym (ne_eqb n m differ)))
    ]

two : (x : ℕ) → x < 2 → (x ≡ 0) ⊎ (x ≡ 1)
two zero h = inl refl
two (suc zero) h = inr refl
two (suc (suc x)) h = absurd (omega arith)

either_bit : (x y : ℕ) → x < 2 → y < 2 → nat_eq (max x y) 1 ≡ (nat_eq x 1 || nat_eq y 1)
either_bit x y p q =
    elim (two x p) [
      | inl nought ↦ elim (two y q) [ inl none ↦ ap₂ (λ a b. nat_eq (max a b) 1) nought none ∙ sym (ap₂ (λ a b. nat_eq a 1 || nat_eq b 1) nought none) | inr one ↦ ap₂ (λ a b. nat_eq (max a b) 1) nought one ∙ sym (ap₂ (λ a b. nat_eq a 1 || nat_eq b 1) nought one) ]
      | inr sole ↦ elim (two y q) [ inl none ↦ ap₂ (λ a b. nat_eq (max a b) 1) sole none ∙ sym (ap₂ (λ a b. nat_eq a 1 || nat_eq b 1) sole none) | inr one ↦ ap₂ (λ a b. nat_eq (max a b) 1) sole one ∙ sym (ap₂ (λ a b. nat_eq a 1 || nat_eq b 1) sole one) ]
    ]

-- a row whose words are each the two words joined
pub has_bit-joined : (a b c : List ℕ) → ((k : ℕ) → get_or c k 0 ≡ bit_or (get_or a k 0) (get_or b k 0)) → (m : ℕ) → has_bit c m ≡ (has_bit a m || has_bit b m)
has_bit-joined a b c words m =
    let x = get_or a (m / 64) 0 in
    let y = get_or b (m / 64) 0 in
    ap (λ w. nat_eq (bit_at w (m % 64)) 1) (words (m / 64)) ∙ ap (λ w. nat_eq w 1) (bit_at_or x y (m % 64)) ∙ either_bit (bit_at x (m % 64)) (bit_at y (m % 64)) (bit_at-lt x (m % 64)) (bit_at-lt y (m % 64))

pub or_none : (x y : ℕ) → y ≡ 0 → x ≡ bit_or x y
or_none x y none = sym (ap (bit_or x) none ∙ or_disjoint x 0 (omega (arith, and_le_r x 0)) ∙ omega arith)
