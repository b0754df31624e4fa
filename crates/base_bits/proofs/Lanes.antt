-- From the mask of one vector to the words that share a bit.
use Rattle.std.proofs.Common.{◌≡◌, ℕ, zero, suc, ◌+◌, ◌*◌, ◌-◌, ◌^◌, ◌%◌, ◌<◌, ◌≤◌, Bool, true, false, cond, not, nat_eq, List, [], ◌∷◌, length, get_or, map, replicate, bit_and, w64, refl, sym, ap, subst, ◌∙◌, arith}
use Rattle.std.proofs.lemmas.Simd.{bitmask_splat, length-chunk, get_or-chunk, length-zip2, get_or-zip2}
use lib.Lanes.{chunk, zip2, mask_l, top}
use Rattle.base_bits.specs.Private.Apart.{IsApartAt}

none_by : (b : Bool) (n : ℕ) → cond b 1 0 + 2 * n ≡ 0 → (b ≡ false) × (n ≡ 0)
none_by true n h = absurd (omega arith)
none_by false n h = (refl, omega arith)

mask_none : (p : ℕ → Bool) (xs : List ℕ) → mask_l (map p xs) ≡ 0 → (k : ℕ) → k < length xs → p (get_or xs k 0) ≡ false
mask_none p [] h k l = absurd (omega arith)
mask_none p (x ∷ xs) h zero l = (none_by (p x) (mask_l (map p xs)) h).0
mask_none p (x ∷ xs) h (suc k) l = mask_none p xs (none_by (p x) (mask_l (map p xs)) h).1 k (omega arith)

some_by : (p : ℕ → Bool) (x : ℕ) (xs : List ℕ) (b : Bool) → p x ≡ b → (cond b 1 0 + 2 * mask_l (map p xs) ≡ 0 → ⊥) → ((mask_l (map p xs) ≡ 0 → ⊥) → (k : ℕ) × (k < length xs) × (p (get_or xs k 0) ≡ true))
    → (k : ℕ) × (k < length (x ∷ xs)) × (p (get_or (x ∷ xs) k 0) ≡ true)
some_by p x xs true e h rest = (0, omega arith, e)
some_by p x xs false e h rest = let found = rest (λ z. h (omega arith)) in let below = found.1 in (suc found.0, omega arith, found.2)

mask_some : (p : ℕ → Bool) (xs : List ℕ) → (mask_l (map p xs) ≡ 0 → ⊥) → (k : ℕ) × (k < length xs) × (p (get_or xs k 0) ≡ true)
mask_some p [] h = absurd (h refl)
mask_some p (x ∷ xs) h = some_by p x xs (p x) refl h (mask_some p xs)

abbrev differ : ℕ → ℕ → Bool
differ x y = not (nat_eq x y)

-- what `to_bitmask` reads of the words that two rows share, from a place on
abbrev pub shared_mask : List ℕ → List ℕ → ℕ → ℕ
shared_mask a b at = mask_l (map (top 63) (zip2 (λ x y. cond (not (nat_eq x y)) (2 ^ 64 - 1) 0) (zip2 bit_and (chunk at 8 a) (chunk at 8 b)) (replicate 8 0))) % 2 ^ 64

module _ (a b : List ℕ) (at : ℕ) (in_a : at + 8 ≤ length a) (in_b : at + 8 ≤ length b) where
  abbrev both : List ℕ
  both = zip2 bit_and (chunk at 8 a) (chunk at 8 b)

  abbrev is_shared : ℕ → Bool
  is_shared x = differ x 0

  long_a : length (chunk at 8 a) ≡ 8
  long_a = length-chunk at 8 a in_a

  long_b : length (chunk at 8 b) ≡ 8
  long_b = length-chunk at 8 b in_b

  long : length both ≡ 8
  long = length-zip2 bit_and (chunk at 8 a) (chunk at 8 b) (long_a ∙ sym long_b) ∙ long_a

  mask_is : shared_mask a b at ≡ mask_l (map is_shared both)
  mask_is = bitmask_splat w64 differ both 8 0 long (omega arith)

  word : (k : ℕ) → k < 8 → get_or both k 0 ≡ bit_and (get_or a (at + k) 0) (get_or b (at + k) 0)
  word k l =
      get_or-zip2 bit_and (chunk at 8 a) (chunk at 8 b) k 0 0 0 (omega (arith, long_a)) (omega (arith, long_b))
      ∙ ap (λ x. bit_and x (get_or (chunk at 8 b) k 0)) (get_or-chunk at 8 a k 0 l) ∙ ap (bit_and (get_or a (at + k) 0)) (get_or-chunk at 8 b k 0 l)

  same_by : (x : ℕ) (t : Bool) → nat_eq x 0 ≡ t → not t ≡ false → x ≡ 0
  same_by x true e h = grind (arith, e)
  same_by x false e h = cc

  other_by : (x : ℕ) → not (nat_eq x 0) ≡ true → x ≡ 0 → ⊥
  other_by zero h e = cc
  other_by (suc x) h e = cc

  pub shared_apart : not (nat_eq (shared_mask a b at) 0) ≡ false → (i : ℕ) → at ≤ i → i < at + 8 → IsApartAt a b i
  shared_apart h i from to =
      let none : shared_mask a b at ≡ 0 = same_by (shared_mask a b at) (nat_eq (shared_mask a b at) 0) refl h in
      let k = i - at in
      let back : at + k ≡ i = omega arith in
      let fails = mask_none is_shared both (sym mask_is ∙ none) k (omega (arith, long)) in
      let zeroed : get_or both k 0 ≡ 0 = same_by (get_or both k 0) (nat_eq (get_or both k 0) 0) refl fails in
      subst (IsApartAt a b) back (sym (word k (omega arith)) ∙ zeroed)

  pub shared_found : not (nat_eq (shared_mask a b at) 0) ≡ true → (i : ℕ) × (IsApartAt a b i → ⊥)
  shared_found h =
      let some = mask_some is_shared both (λ z. other_by (shared_mask a b at) h (mask_is ∙ z)) in
      (at + some.0, λ z. other_by (get_or both some.0 0) some.2 (word some.0 (let below = some.1 in omega (arith, long)) ∙ z))
