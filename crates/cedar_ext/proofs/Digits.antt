-- The number that digits write.
use Rattle.std.proofs.Common.{◌≡◌, ℕ, zero, suc, ◌+◌, ◌-◌, ◌*◌, ◌^◌, ◌<◌, ◌≤◌, ◌&&◌, Bool, true, false, Some, None, if◌then◌else◌, nat_le, nat_lt, List, [], ◌∷◌, ◌++◌, length, take, drop, get_or, refl, arith, sym}
use Rattle.std.specs.List.{list_all, position}
use Rattle.std.specs.Bool.{◌==◌}
use Rattle.std.specs.Char.{is_ascii_digit}
use Rattle.std.proofs.lemmas.List.{take_more}
use Rattle.std.proofs.lemmas.Grind.{common_steps}
use Rattle.cedar_ext.specs.Decimals.{number_after, number_of, is_number, signed_units}
use Rattle.cedar_ext.specs.DecimalOf.{units_of}
use Rattle.cedar_ext.specs.Private.DigitsWithin.{number_within}
use Rattle.std.proofs.lemmas.Bool.Decides.{nat_tests}

pub number_after-push : (n : ℕ) (ds : List ℕ) (d : ℕ) → number_after n (ds ++ d ∷ []) ≡ number_after n ds * 10 + (d - 48)
number_after-push n [] d = refl
number_after-push n (e ∷ ds) d = number_after-push (n * 10 + (e - 48)) ds d

pub number_after-le : (n : ℕ) (ds : List ℕ) → n ≤ number_after n ds
number_after-le n [] = omega arith
number_after-le n (d ∷ ds) = omega (arith, number_after-le (n * 10 + (d - 48)) ds)

pub number_after-take : (n : ℕ) (i : ℕ) (ds : List ℕ) → number_after n (take i ds) ≤ number_after n ds
number_after-take n zero ds = number_after-le n ds
number_after-take n (suc i) [] = omega arith
number_after-take n (suc i) (d ∷ ds) = number_after-take (n * 10 + (d - 48)) i ds

pub number_of-take : (i : ℕ) (ds : List ℕ) → number_of (take i ds) ≤ number_of ds
number_of-take i ds = number_after-take 0 i ds

pub number_of-more : (ds : List ℕ) (i d e : ℕ) → i < length ds → d ≡ get_or ds i e → number_of (take (i + 1) ds) ≡ number_of (take i ds) * 10 + (d - 48)
number_of-more ds i d e h is = rw (take_more ds i e h, is) (number_after-push 0 (take i ds) (get_or ds i e))

-- a front that is too great makes the whole too great
pub too_great : (ds : List ℕ) (i limit n : ℕ) → limit < n → n ≡ number_of (take i ds) → number_within limit ds ≡ None
too_great ds i limit n h e =
    let g : nat_le (number_of ds) limit ≡ false = above (number_of ds) limit (omega (arith, number_of-take i ds)) in
    rw g (none (is_number ds))
  where
    above : (x y : ℕ) → y < x → nat_le x y ≡ false
    above x y k = grind (arith, nat_tests)

    none : (b : Bool) → (if b && false then Some (number_of ds) else None) ≡ None
    none true = refl
    none false = refl

pub and_first : (b c : Bool) → (b && c) ≡ true → b ≡ true
and_first true c h = refl
and_first false c h = cc

pub and_second : (b c : Bool) → (b && c) ≡ true → c ≡ true
and_second true c h = h
and_second false c h = cc

digit_small : (d : ℕ) → is_ascii_digit d ≡ true → d - 48 ≤ 9
digit_small d h = grind (arith, nat_tests)

-- m with k nines after it
abbrev grown : ℕ → ℕ → ℕ
grown m zero = m
grown m (suc k) = grown (m * 10 + 9) k

grown-le : (m k : ℕ) → m ≤ grown m k
grown-le m zero = omega arith
grown-le m (suc k) = omega (arith, grown-le (m * 10 + 9) k)

number_after-small : (ds : List ℕ) (n m k : ℕ) → n ≤ m → list_all is_ascii_digit ds ≡ true → length ds ≤ k → number_after n ds ≤ grown m k
number_after-small [] n m k le h short = omega (arith, grown-le m k)
number_after-small (d ∷ ds) n m zero le h short = absurd (omega arith)
number_after-small (d ∷ ds) n m (suc k) le h short =
    number_after-small ds (n * 10 + (d - 48)) (m * 10 + 9) k (omega (arith, digit_small d (and_first _ _ h))) (and_second _ _ h) (omega arith)

and_false : (b : Bool) → (b && false) ≡ false
and_false true = refl
and_false false = refl

at_most : (x y : ℕ) → x ≤ y → nat_le x y ≡ true
at_most x y k = grind (arith, nat_tests)

test_false : (b : Bool) (n : ℕ) → (if b && true then Some n else None) ≡ None → b ≡ false
test_false true n k = cc
test_false false n k = refl

-- a fraction is within the limit
pub fraction_within : (ds : List ℕ) (limit : ℕ) → 9999 ≤ limit → length ds ≤ 4 → number_within limit ds ≡ None → is_number ds ≡ false
fraction_within ds limit le short h = none (list_all is_ascii_digit ds) refl
  where
    none : (b : Bool) → b ≡ list_all is_ascii_digit ds → is_number ds ≡ false
    none false e = rw (sym e) (and_false (nat_lt 0 (length ds)))
    none true e =
        let small : number_of ds ≤ 9999 = number_after-small ds 0 0 4 (omega arith) (sym e) short in
        let fits : nat_le (number_of ds) limit ≡ true = at_most (number_of ds) limit (omega arith) in
        test_false (is_number ds) (number_of ds) (rw fits at h)

test_true : (b : Bool) (n m : ℕ) → (if b then Some n else None) ≡ Some m → (b ≡ true) × (m ≡ n)
test_true true n m h = (refl, cc)
test_true false n m h = cc

pub within_some : (ds : List ℕ) (limit n : ℕ) → number_within limit ds ≡ Some n → (is_number ds ≡ true) × (n ≡ number_of ds)
within_some ds limit n h =
    let t = test_true (is_number ds && nat_le (number_of ds) limit) (number_of ds) n h in
    (and_first _ _ t.0, t.1)

module _ (negative : Bool) (body : List ℕ) (point : ℕ) (place : Some point ≡ position (λ b. b == 46) body) where
  pub units_of-no_fraction : is_number (drop (point + 1) body) ≡ false → units_of negative body ≡ None
  units_of-no_fraction h = rw (← place, h) (none (is_number (take point body)))
    where
      none : (b : Bool) → (if b && false && nat_le (length (drop (point + 1) body)) 4 then signed_units negative (number_of (take point body) * 10000 + number_of (drop (point + 1) body) * 10 ^ (4 - length (drop (point + 1) body))) else None) ≡ None
      none true = refl
      none false = refl

  pub units_of-parts : is_number (take point body) ≡ true → is_number (drop (point + 1) body) ≡ true → length (drop (point + 1) body) ≤ 4
      → units_of negative body ≡ signed_units negative (number_of (take point body) * 10000 + number_of (drop (point + 1) body) * 10 ^ (4 - length (drop (point + 1) body)))
  units_of-parts w f short = let s : nat_le (length (drop (point + 1) body)) 4 ≡ true = at_most _ 4 short in rw (← place, w, f, s) refl

pub all_after : (xs : List ℕ) (k : ℕ) → take (length xs - k) (drop k xs) ≡ drop k xs
all_after xs k = grind (arith, common_steps)
