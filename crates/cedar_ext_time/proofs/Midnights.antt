-- The last midnight before a moment.
use Rattle.std.proofs.Common.{◌≡◌, ◌/◌, ℤ, pos, negsuc, ◌-ℤ◌, Bool, true, false, not, ◌&&◌, Option, Some, None, IfSome, IfNone, if◌then◌else◌, refl, sym, subst, arith}
use Rattle.std.specs.Prelude.{◌≤ℤ◌, ◌<ℤ◌, int_lt}
use Rattle.std.proofs.lemmas.Int.{ints}
use Rattle.cedar_ext_time.specs.Longs.{is_long, long_of}
use Rattle.cedar_ext_time.specs.Days.{IsMidnightOf, time_of_day, midnight}
use Rattle.cedar_ext_time.proofs.Cut.{tested, some_is}

pub midnight_is : (z : ℤ) → IsMidnightOf z (midnight z)
midnight_is (pos a) = record {
  days = pos (a / 86400000);
  multiple = omega (arith, ints);
  not_above = omega (arith, ints);
  greatest = omega (arith, ints);
}
midnight_is (negsuc a) = record {
  days = negsuc (a / 86400000);
  multiple = omega (arith, ints);
  not_above = omega (arith, ints);
  greatest = omega (arith, ints);
}

pub midnight_one : (z m k : ℤ) → IsMidnightOf z m → IsMidnightOf z k → m ≡ k
midnight_one z m k h j = omega (arith, ints)

pub time_since : (z m r : ℤ) → r ≡ time_of_day z → IsMidnightOf z m → r ≡ z -ℤ m
time_since z m r e h =
    let k : m ≡ midnight z = midnight_one z m (midnight z) h (midnight_is z) in
    omega (arith, ints)

pub date_some : (z : ℤ) (o : Option ℤ) → o ≡ long_of (midnight z) → IfSome o (λ m. IsMidnightOf z m)
date_some z None e = tt
date_some z (Some m) e =
    let t = tested (is_long (midnight z)) (Some (midnight z)) m (sym e) in
    let P : ℤ → Type 0 = λ x. IsMidnightOf z x in
    subst P (sym (some_is (midnight z) m t.1)) (midnight_is z)

below_long : (w z : ℤ) (a b : Bool) → int_lt w (negsuc 9223372036854775807) ≡ a → int_lt w (pos 9223372036854775808) ≡ b → (not a && b) ≡ false
    → w ≤ℤ z → z <ℤ pos 9223372036854775808 → w <ℤ negsuc 9223372036854775807
below_long w z true b p q h l t = omega (arith, ints)
below_long w z false true p q h l t = cc
below_long w z false false p q h l t = absurd (omega (arith, ints))

none_if : {A : Type 0} (b : Bool) (x : A) → None ≡ (if b then Some x else None) → b ≡ false
none_if true x h = cc
none_if false x h = refl

pub date_none : (z : ℤ) (o : Option ℤ) → z <ℤ pos 9223372036854775808 → o ≡ long_of (midnight z) → IfNone o ((m : ℤ) → IsMidnightOf z m → m <ℤ negsuc 9223372036854775807)
date_none z None t e = λ m h.
    let k : m ≡ midnight z = midnight_one z m (midnight z) h (midnight_is z) in
    let low = below_long (midnight z) z (int_lt (midnight z) (negsuc 9223372036854775807)) (int_lt (midnight z) (pos 9223372036854775808)) refl refl (none_if (is_long (midnight z)) (midnight z) e) (midnight_is z).not_above t in
    let P : ℤ → Type 0 = λ x. x <ℤ negsuc 9223372036854775807 in
    subst P (sym k) low
date_none z (Some m) t e = tt
