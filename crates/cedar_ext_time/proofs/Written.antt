-- A duration that is written in milliseconds reads as itself.
use Rattle.std.proofs.Common.{◌≡◌, ◌≢◌, ℕ, suc, ◌^◌, ◌≤◌, ◌<◌, ℤ, pos, negsuc, ◌-ℤ◌, true, false, Some, Result, Ok, Err, IfOk, nat_lt, List, [], ◌∷◌, ◌++◌, length, inl, inr, refl, ap, ◌∙◌, arith, rules, length-append}
use Rattle.std.specs.List.{list_all}
use Rattle.std.specs.Char.{is_ascii_digit}
use Rattle.std.specs.Fmt.{decimal, signed_decimal}
use Rattle.std.specs.Int.{w64}
use Rattle.std.specs.Int.RustNames.{FitsSigned}
use Rattle.std.proofs.lemmas.Int.{ints}
use Rattle.std.proofs.lemmas.Bool.Decides.{nat_tests}
use Rattle.std.proofs.lemmas.Fmt.{digits_decimal, digits_value-decimal, decimal_nonempty}
use Rattle.std.proofs.lemmas.Str.Parse.{IsNumeralModel, numerals_by_fold}
use Rattle.cedar_ext_time.specs.Digits.{number_after, number_of, is_number}
use Rattle.cedar_ext_time.specs.Longs.{long_of}
use Rattle.cedar_ext_time.specs.Units.{units}
use Rattle.cedar_ext_time.specs.Durations.{IsSum}
use Rattle.cedar_ext_time.specs.DurationOf.{duration_of}
use Rattle.cedar_ext_time.proofs.Runs.{and_both}
use Rattle.cedar_ext_time.proofs.DurationTexts.{duration_found}

pub own : IsNumeralModel (λ ds. list_all is_ascii_digit ds ≡ true) number_of
own = numerals_by_fold _ (search rules) number_after (search rules)

above_zero : (n : ℕ) → 0 < n → nat_lt 0 n ≡ true
above_zero n h = grind (arith, nat_tests)

decimal_number : (n : ℕ) → n < 2 ^ 64 → is_number (decimal n) ≡ true
decimal_number n h = and_both _ _ (above_zero (length (decimal n)) (decimal_nonempty n h)) (digits_decimal own n h)

decimal_sum : (n : ℕ) → n < 2 ^ 64 → IsSum units (decimal n ++ 109 ∷ 115 ∷ []) n
unfolding IsSum
decimal_sum n h =
    let value : number_of (decimal n) ≡ n = digits_value-decimal own n h in
    inl (inl (inl (inl (inr (decimal n, [], 0, decimal_number n h, refl, (refl, refl), omega (arith, value))))))

some_part : (n : ℕ) → decimal n ++ 109 ∷ 115 ∷ [] ≢ []
some_part n = λ e. let k : length (decimal n ++ 109 ∷ 115 ∷ []) ≡ 0 = ap length e in absurd (omega (arith, length-append (decimal n) (109 ∷ 115 ∷ [])))

below : (m n : ℕ) → m < n → nat_lt m n ≡ true
below m n h = grind (arith, nat_tests)

long_pos : (n : ℕ) → n < 9223372036854775808 → long_of (pos n) ≡ Some (pos n)
long_pos n h = let k : nat_lt n 9223372036854775808 ≡ true = below n 9223372036854775808 h in rw k refl

not_below : (m n : ℕ) → n ≤ m → nat_lt m n ≡ false
not_below m n h = grind (arith, nat_tests)

long_neg : (n : ℕ) → n < 9223372036854775808 → long_of (negsuc n) ≡ Some (negsuc n)
long_neg n h = let k : nat_lt 9223372036854775807 n ≡ false = not_below 9223372036854775807 n (omega arith) in rw k refl

pub duration_written : (z : ℤ) → FitsSigned w64 z → duration_of (signed_decimal z ++ 109 ∷ 115 ∷ []) ≡ Some z
duration_written (pos n) f =
    let h : n < 9223372036854775808 = f.sfits in
    duration_found _ (pos n) (record {
      negative = false;
      body = decimal n ++ 109 ∷ 115 ∷ [];
      milliseconds = n;
      text_is = refl;
      some_part = some_part n;
      sum = decimal_sum n (omega arith);
      value = long_pos n h;
    })
duration_written (negsuc n) f =
    let h : n < 9223372036854775808 = f.sfits in
    let e : pos 0 -ℤ pos (suc n) ≡ negsuc n = omega (arith, ints) in
    duration_found _ (negsuc n) (record {
      negative = true;
      body = decimal (suc n) ++ 109 ∷ 115 ∷ [];
      milliseconds = suc n;
      text_is = refl;
      some_part = some_part (suc n);
      sum = decimal_sum (suc n) (omega arith);
      value = ap long_of e ∙ long_neg n h;
    })

pub text_written : {A E : Type 0} (view : A → List ℕ) (z : ℤ) (r : Result A E) → FitsSigned w64 z → IfOk r (λ s. view s ≡ signed_decimal z ++ 109 ∷ 115 ∷ []) → IfOk r (λ s. duration_of (view s) ≡ Some z)
text_written view z (Ok s) f h = ap duration_of h ∙ duration_written z f
text_written view z (Err e) f h = tt
