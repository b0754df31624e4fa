-- The top of a stack, whose entries are in the first places of a list, the top last.
use Rattle.std.proofs.Common.{◌≡◌, ℕ, suc, ◌+◌, ◌-◌, ◌<◌, ◌≤◌, List, [], ◌∷◌, ◌++◌, length, sym, ap, ◌∙◌, subst, arith}
use Rattle.std.specs.Prelude.{take, drop, reverse, slice_index_or, slice_set}
use Rattle.std.specs.List.{refill}
use Rattle.std.proofs.Math.Seq.{take-append_seam, drop-append_seam, take-suc, take-suc-set}
use Rattle.std.proofs.lemmas.List.{take-append-drop, take-take, length-take-le, length-drop, length-reverse, reverse-append, reverse-reverse, length-set, take_all, drop_all, append-nil, drop-take}

module _ {A : Type 0} (xs : List A) (k : ℕ) (within : k ≤ length xs) where
  cut : reverse xs ≡ reverse (drop (length xs - k) xs) ++ reverse (take (length xs - k) xs)
  cut =
      let n = length xs - k in
      ap reverse (sym (take-append-drop n xs)) ∙ reverse-append (take n xs) (drop n xs)

  many : length (reverse (drop (length xs - k) xs)) ≡ k
  many =
      let n = length xs - k in
      length-reverse (drop n xs) ∙ length-drop n xs ∙ omega (arith, within)

  pub top_is : reverse (take k (reverse xs)) ≡ drop (length xs - k) xs
  top_is =
      let top = reverse (drop (length xs - k) xs) in
      let rest = reverse (take (length xs - k) xs) in
      let taken : take k (top ++ rest) ≡ top = subst (λ j. take j (top ++ rest) ≡ top) many (take-append_seam top rest) in
      ap (λ l. reverse (take k l)) cut ∙ ap reverse taken ∙ reverse-reverse (drop (length xs - k) xs)

  pub rest_is : drop k (reverse xs) ≡ reverse (take (length xs - k) xs)
  rest_is =
      let top = reverse (drop (length xs - k) xs) in
      let rest = reverse (take (length xs - k) xs) in
      ap (drop k) cut ∙ subst (λ j. drop j (top ++ rest) ≡ rest) many (drop-append_seam top rest)

-- an operand is put on those in the first places
pub put_on : {A : Type 0} (xs : List A) (j height : ℕ) (x : A) → height ≡ suc j → j < length xs → reverse (take height (refill (length xs) xs (slice_set xs j x))) ≡ x ∷ reverse (take j xs)
put_on xs j height x high within =
    let ys = slice_set xs j x in
    let long : length ys ≡ length xs = length-set xs j x in
    let none : drop (length ys) xs ≡ [] = drop_all (length ys) xs (omega (arith, long)) in
    let whole : refill (length xs) xs ys ≡ ys = ap (λ l. take (length xs) (ys ++ l)) none ∙ ap (take (length xs)) (append-nil ys) ∙ take_all (length xs) ys (omega (arith, long)) in
    ap (λ l. reverse (take height l)) whole ∙ ap (λ n. reverse (take n ys)) high ∙ ap reverse (take-suc-set xs j x within) ∙ reverse-append (take j xs) (x ∷ [])

module _ {A : Type 0} (xs : List A) (height : ℕ) (within : height ≤ length xs) where
  -- the operand in the last place is the top
  pub one_on_top : (j : ℕ) (x : A) → height ≡ suc j → x ≡ slice_index_or xs j x → reverse (take height xs) ≡ x ∷ reverse (take j xs)
  one_on_top j x high is =
      let less : j < length xs = omega (arith, within, high) in
      let taken : take height xs ≡ take j xs ++ (x ∷ []) = ap (λ n. take n xs) high ∙ take-suc xs j x less ∙ ap (λ y. take j xs ++ (y ∷ [])) (sym is) in
      ap reverse taken ∙ reverse-append (take j xs) (x ∷ [])

  -- without so many from the top
  pub left : (count : ℕ) → count ≤ height → drop count (reverse (take height xs)) ≡ reverse (take (height - count) xs)
  left count few =
      let long : length (take height xs) ≡ height = length-take-le height xs within in
      rest_is (take height xs) count (omega (arith, long, few))
      ∙ ap (λ n. reverse (take (n - count) (take height xs))) long
      ∙ ap reverse (take-take (height - count) height xs (omega arith))

  -- the topmost, the top last
  pub topmost : (count : ℕ) → count ≤ height → take (height - (height - count)) (drop (height - count) xs) ≡ reverse (take count (reverse (take height xs)))
  topmost count few =
      let long : length (take height xs) ≡ height = length-take-le height xs within in
      let same : height ≡ (height - count) + (height - (height - count)) = omega (arith, few) in
      sym (top_is (take height xs) count (omega (arith, long, few))
      ∙ ap (λ n. drop (n - count) (take height xs)) long
      ∙ ap (λ n. drop (height - count) (take n xs)) same
      ∙ drop-take (height - count) (height - (height - count)) xs)
