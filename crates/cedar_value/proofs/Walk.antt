-- Two lists compared element by element, from a place on.
use Rattle.std.proofs.Common.{◌≡◌, ℕ, zero, suc, ◌+◌, ◌<◌, ◌≤◌, List, [], ◌∷◌, length, get_or, drop, refl, arith, sym, ◌∙◌, add-one, length-drop}
use Rattle.std.proofs.lemmas.Bool.Decides.{nat_tests}
use Rattle.std.specs.declared.cmp.Ordering.{Ordering}
use Rattle.std.specs.declared.cmp.Ordering.TheVariants.{Less, Equal, Greater}
use Rattle.std.specs.Ordering.{ordering_then, nat_cmp}
use Rattle.std.specs.Cmp.Lexicographic.{slice_cmp}

below : (m n : ℕ) → m < n → Less ≡ nat_cmp m n
below m n h = grind (arith, nat_tests)

level : (n : ℕ) → Equal ≡ nat_cmp n n
level n = grind (arith, nat_tests)

module _ {A : Type 0} (R : A → A → Ordering) where
  abbrev pub rest_cmp : List A → List A → ℕ → Ordering
  rest_cmp xs ys i = slice_cmp R (drop i xs) (drop i ys)

  at_suc : (xs ys : List A) (i : ℕ) (x y : A) → i < length xs → i < length ys → x ≡ get_or xs i x → y ≡ get_or ys i y → rest_cmp xs ys i ≡ ordering_then (R x y) (rest_cmp xs ys (suc i))
  at_suc [] ys i x y h g ex ey = absurd (omega arith)
  at_suc (u ∷ xs) [] i x y h g ex ey = absurd (omega arith)
  at_suc (u ∷ xs) (v ∷ ys) zero x y h g ex ey = λ k. ordering_then (R (sym ex k) (sym ey k)) (slice_cmp R xs ys)
  at_suc (u ∷ xs) (v ∷ ys) (suc i) x y h g ex ey = at_suc xs ys i x y (omega arith) (omega arith) ex ey

  pub rest_cmp-step : (xs ys : List A) (i : ℕ) (x y : A) → i < length xs → i < length ys → x ≡ get_or xs i x → y ≡ get_or ys i y → rest_cmp xs ys i ≡ ordering_then (R x y) (rest_cmp xs ys (i + 1))
  rest_cmp-step xs ys i x y h g ex ey = rw add-one (at_suc xs ys i x y h g ex ey)

  -- where the first list has been walked through and the second is no shorter, their lengths decide
  pub rest_cmp-end : (xs ys : List A) (i : ℕ) → length xs ≡ i → i ≤ length ys → rest_cmp xs ys i ≡ nat_cmp (length xs) (length ys)
  rest_cmp-end [] [] zero h g = refl
  rest_cmp-end [] (y ∷ ys) zero h g = below 0 (length (y ∷ ys)) (omega arith)
  rest_cmp-end [] ys (suc i) h g = absurd (omega arith)
  rest_cmp-end (x ∷ xs) ys zero h g = absurd (omega arith)
  rest_cmp-end (x ∷ xs) [] (suc i) h g = absurd (omega arith)
  rest_cmp-end (x ∷ xs) (y ∷ ys) (suc i) h g = rest_cmp-end xs ys i (omega arith) (omega arith) ∙ both_more (length xs) (length ys)
    where
      both_more : (m n : ℕ) → nat_cmp m n ≡ nat_cmp (suc m) (suc n)
      both_more m n = grind (arith, nat_tests)

  -- and where the second has been walked through and the first has not, the first is greater
  pub rest_cmp-longer : (xs ys : List A) (i : ℕ) → i < length xs → length ys ≤ i → rest_cmp xs ys i ≡ Greater
  rest_cmp-longer xs ys i h g = longer (drop i xs) (drop i ys) (omega (arith, length-drop i xs)) (omega (arith, length-drop i ys))
    where
      longer : (xs ys : List A) → 0 < length xs → length ys ≤ 0 → slice_cmp R xs ys ≡ Greater
      longer [] ys h g = absurd (omega arith)
      longer (x ∷ xs) [] h g = refl
      longer (x ∷ xs) (y ∷ ys) h g = absurd (omega arith)
