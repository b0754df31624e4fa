-- The number that digits write, also where it is cut at 64 bits.
use Rattle.std.proofs.Common.{◌≡◌, ℕ, zero, suc, ◌+◌, ◌-◌, ◌*◌, ◌^◌, ◌<◌, ◌≤◌, min, true, List, [], ◌∷◌, ◌++◌, length, take, get_or, refl, arith}
use Rattle.std.specs.List.{list_all}
use Rattle.std.specs.Char.{is_ascii_digit}
use Rattle.std.proofs.lemmas.List.{take_more}
use Rattle.std.proofs.lemmas.Bool.Decides.{nat_tests}
use Rattle.cedar_ext_time.specs.Digits.{number_after, number_of}
use Rattle.cedar_ext_time.specs.Private.Capped.{capped}
use Rattle.cedar_ext_time.proofs.Runs.{and_first, and_second}

number_after-push : (n : ℕ) (ds : List ℕ) (d : ℕ) → number_after n (ds ++ d ∷ []) ≡ number_after n ds * 10 + (d - 48)
number_after-push n [] d = refl
number_after-push n (e ∷ ds) d = number_after-push (n * 10 + (e - 48)) ds d

pub number_of-more : (ds : List ℕ) (i d e : ℕ) → i < length ds → d ≡ get_or ds i e → number_of (take (i + 1) ds) ≡ number_of (take i ds) * 10 + (d - 48)
number_of-more ds i d e h is = rw (take_more ds i e h, is) (number_after-push 0 (take i ds) (get_or ds i e))

-- one digit more of a number that is cut
pub capped_more : (n k : ℕ) → min (min (capped n * 10) (2 ^ 64 - 1) + k) (2 ^ 64 - 1) ≡ capped (n * 10 + k)
capped_more n k = omega arith

digit_small : (d : ℕ) → is_ascii_digit d ≡ true → d - 48 ≤ 9
digit_small d h = grind (arith, nat_tests)

-- m with k nines after it
abbrev grown : ℕ → ℕ → ℕ
grown m zero = m
grown m (suc k) = grown (m * 10 + 9) k

grown-le : (m k : ℕ) → m ≤ grown m k
grown-le m zero = omega arith
grown-le m (suc k) = omega (arith, grown-le (m * 10 + 9) k)

number_after-small : (ds : List ℕ) (n m k : ℕ) → n ≤ m → list_all is_ascii_digit ds ≡ true → length ds ≤ k → number_after n ds ≤ grown m k
number_after-small [] n m k le h short = omega (arith, grown-le m k)
number_after-small (d ∷ ds) n m zero le h short = absurd (omega arith)
number_after-small (d ∷ ds) n m (suc k) le h short =
    number_after-small ds (n * 10 + (d - 48)) (m * 10 + 9) k (omega (arith, digit_small d (and_first _ _ h))) (and_second _ _ h) (omega arith)

-- what four digits write
pub number_small : (ds : List ℕ) → list_all is_ascii_digit ds ≡ true → length ds ≤ 4 → number_of ds ≤ 9999
number_small ds h short = number_after-small ds 0 0 4 (omega arith) h short
