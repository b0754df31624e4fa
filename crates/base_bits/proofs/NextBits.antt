-- The next bit that is set.
use Rattle.std.proofs.Common.{◌≡◌, ℕ, ◌+◌, ◌-◌, ◌*◌, ◌/◌, ◌%◌, ◌^◌, ◌<◌, ◌≤◌, false, nat_eq, Option, None, Some, List, length, get_or, bit_and, min, w64, Fits, inl, inr, refl, sym, ap, ap₂, subst, ◌∙◌, arith}
use Rattle.std.specs.Int.{bit_at, trailing_zeros}
use Rattle.std.specs.Option.{IfNone, IfSome}
use Rattle.std.proofs.lemmas.Bool.{cases_lt}
use Rattle.std.proofs.lemmas.List.{get_or_past}
use Rattle.std.proofs.lemmas.Nat.{and_le_l, div-mul-add, mod-mul-add}
use Rattle.std.proofs.lemmas.Nat.Bits.{bit_at_and, bit_at-zero, bit_at-lt, bit_at_mask_inside, bit_at_mask_below, bit_at-trailing_zeros, ones_shl}
use Rattle.base_bits.specs.Bits.{has_bit, HasNoBitFrom, IsNextBit}

-- no bit is set from the one number up to the other
abbrev pub HasNoBitBetween : List ℕ → ℕ → ℕ → Type 0
HasNoBitBetween row a b = (m : ℕ) → a ≤ m → m < b → has_bit row m ≡ false

-- the bits of one word
at_word : (row : List ℕ) (place i : ℕ) → i < 64 → has_bit row (place * 64 + i) ≡ nat_eq (bit_at (get_or row place 0) i) 1
at_word row place i below = ap₂ (λ p q. nat_eq (bit_at (get_or row p 0) q) 1) (div-mul-add place 64 i below) (mod-mul-add place 64 i below)

not_at_word : (row : List ℕ) (place m : ℕ) → place * 64 ≤ m → m < place * 64 + 64 → bit_at (get_or row place 0) (m - place * 64) ≡ 0 → has_bit row m ≡ false
not_at_word row place m from to none =
    let i = m - place * 64 in
    let back : m ≡ place * 64 + i = omega arith in
    ap (has_bit row) back ∙ at_word row place i (omega arith) ∙ ap (λ b. nat_eq b 1) none

-- a word without its lowest bits
pub record IsMasked (row : List ℕ) (place k word : ℕ) : Type 0 where
  pub kept : (i : ℕ) → k ≤ i → i < 64 → bit_at word i ≡ bit_at (get_or row place 0) i
  pub cleared : (i : ℕ) → i < k → bit_at word i ≡ 0
  pub fits : word < 2 ^ 64

pub IsMasked-whole : (row : List ℕ) (place word : ℕ) → word ≡ get_or row place 0 → word < 2 ^ 64 → IsMasked row place 0 word
IsMasked-whole row place word is fits = record {
  kept = λ i from to. ap (λ w. bit_at w i) is;
  cleared = λ i below. absurd (omega arith);
  fits = fits;
}

least_one : (b : ℕ) → b < 2 → min b 1 ≡ b
least_one b small = omega arith

least_none : (b : ℕ) → min b 0 ≡ 0
least_none b = omega arith

IsMasked-and : (row : List ℕ) (place k word x : ℕ) → k < 64 → x ≡ get_or row place 0 → x < 2 ^ 64 → word ≡ bit_and x ((2 ^ 64 - 1) * 2 ^ k % 2 ^ 64) → IsMasked row place k word
IsMasked-and row place k word x small is fits masked = record {
  kept = λ i from to. each i ∙ ap (min (bit_at x i)) (bit_at_mask_inside k 64 i from to) ∙ least_one (bit_at x i) (bit_at-lt x i) ∙ ap (λ w. bit_at w i) is;
  cleared = λ i below. each i ∙ ap (min (bit_at x i)) (bit_at_mask_below k 64 i below) ∙ least_none (bit_at x i);
  fits = subst (λ w. w < 2 ^ 64) (sym named) (omega (arith, and_le_l x (2 ^ 64 - 2 ^ k)));
}
  where
    named : word ≡ bit_and x (2 ^ 64 - 2 ^ k)
    named = masked ∙ ap (bit_and x) (ones_shl 64 k (omega arith))

    each : (i : ℕ) → bit_at word i ≡ min (bit_at x i) (bit_at (2 ^ 64 - 2 ^ k) i)
    each i = ap (λ w. bit_at w i) named ∙ bit_at_and x (2 ^ 64 - 2 ^ k) i

-- the lowest bit of a word that has one
pub next_found : (row : List ℕ) (place k word : ℕ) → IsMasked row place k word → 0 < word → IsNextBit row (place * 64 + k) (place * 64 + trailing_zeros w64 word)
next_found row place k word is some =
    let lowest = bit_at-trailing_zeros w64 word some is.fits in
    let t = trailing_zeros w64 word in
    let small : t < 64 = lowest.0 in
    let set : bit_at word t ≡ 1 = lowest.1 in
    let kept : k ≤ t = elim (cases_lt t k) [ inl below ↦ (let gone = is.cleared t below in omega arith) | inr from ↦ from ] in (
      omega arith,
      at_word row place t small ∙ ap (λ b. nat_eq b 1) (sym (is.kept t kept small) ∙ set),
      λ m from to. not_at_word row place m (omega arith) (omega arith) (sym (is.kept (m - place * 64) (omega arith) (omega arith)) ∙ lowest.2 (m - place * 64) (omega arith)),
    )

-- a word without a bit
none_in_word : (row : List ℕ) (place k word : ℕ) → IsMasked row place k word → word ≡ 0 → HasNoBitBetween row (place * 64 + k) ((place + 1) * 64)
none_in_word row place k word is none m from to =
    let i = m - place * 64 in
    not_at_word row place m (omega arith) (omega arith) (sym (is.kept i (omega arith) (omega arith)) ∙ ap (λ w. bit_at w i) none ∙ bit_at-zero i)

-- ---- the word that has a number's bit, without the bits below it

module _ (row : List ℕ) (from x : ℕ) (is : x ≡ get_or row (from / 64) 0) (fits : Fits w64 (get_or row (from / 64) 0)) where
  abbrev masked : ℕ
  masked = bit_and x ((2 ^ 64 - 1) * 2 ^ (from % 64) % 2 ^ 64)

  is_masked : IsMasked row (from / 64) (from % 64) masked
  is_masked = IsMasked-and row (from / 64) (from % 64) masked x (omega arith) is (subst (λ w. w < 2 ^ 64) (sym is) fits.fits) refl

  back : from / 64 * 64 + from % 64 ≡ from
  back = omega arith

  pub next_in_word : 0 < masked → IsNextBit row from (from / 64 * 64 + trailing_zeros w64 masked)
  next_in_word some = subst (λ n. IsNextBit row n (from / 64 * 64 + trailing_zeros w64 masked)) back (next_found row (from / 64) (from % 64) masked is_masked some)

  pub none_up_to_word : masked ≡ 0 → HasNoBitBetween row from ((from / 64 + 1) * 64)
  none_up_to_word none = subst (λ n. HasNoBitBetween row n ((from / 64 + 1) * 64)) back (none_in_word row (from / 64) (from % 64) masked is_masked none)

-- what comes before holds no bit
pub next_later : (row : List ℕ) (from mid n : ℕ) → from ≤ mid → HasNoBitBetween row from mid → IsNextBit row mid n → IsNextBit row from n
next_later row from mid n order none next =
    let later = next.0 in (
      omega arith,
      next.1,
      λ m above below. elim (cases_lt m mid) [ inl before ↦ none m above before | inr after ↦ next.2 m after below ],
    )

none_later : (row : List ℕ) (from mid : ℕ) → HasNoBitBetween row from mid → HasNoBitFrom row mid → HasNoBitFrom row from
none_later row from mid none rest m above fits = elim (cases_lt m mid) [ inl before ↦ none m above before | inr after ↦ rest m after fits ]

pub if_next_later : (o : Option ℕ) (row : List ℕ) (from mid : ℕ) → from ≤ mid → HasNoBitBetween row from mid → IfSome o (λ n. IsNextBit row mid n) → IfSome o (λ n. IsNextBit row from n)
if_next_later None row from mid order none next = next
if_next_later (Some n) row from mid order none next = next_later row from mid n order none next

pub if_none_later : (o : Option ℕ) (row : List ℕ) (from mid : ℕ) → HasNoBitBetween row from mid → IfNone o (HasNoBitFrom row mid) → IfNone o (HasNoBitFrom row from)
if_none_later None row from mid none rest = none_later row from mid none rest
if_none_later (Some n) row from mid none rest = rest

-- past its end a row has no bit
pub none_past : (row : List ℕ) (m : ℕ) → length row ≤ m / 64 → has_bit row m ≡ false
none_past row m later =
    ap (λ w. nat_eq (bit_at w (m % 64)) 1) (get_or_past row (m / 64) 0 later) ∙ ap (λ b. nat_eq b 1) (bit_at-zero (m % 64))
