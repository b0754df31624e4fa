-- A text reads as a duration exactly where it is one.
use Rattle.std.proofs.Common.{◌≡◌, ◌≢◌, ℕ, ℤ, Bool, true, false, List, [], ◌∷◌, ◌++◌, Option, Some, None, IfSome, IfNone, if◌then◌else◌, refl, sym, ap, ◌∙◌, arith}
use Rattle.std.specs.Bool.{◌==◌}
use Rattle.std.specs.Char.{is_ascii_digit}
use Rattle.std.proofs.lemmas.Bool.Decides.{nat_tests}
use Rattle.cedar_ext_time.specs.Longs.{long_of}
use Rattle.cedar_ext_time.specs.Units.{units}
use Rattle.cedar_ext_time.specs.Durations.{IsSum, IsDuration, signed}
use Rattle.cedar_ext_time.specs.DurationOf.{sum_of, signed_long, body_of, duration_of}
use Rattle.cedar_ext_time.proofs.Sums.{DigitFirst, sum_starts, sum_found, sum_is, units_distinct}

no_sign : (d : ℕ) → is_ascii_digit d ≡ true → (d == 45) ≡ false
no_sign d h = grind (arith, nat_tests)

is_sign : (d : ℕ) → (d == 45) ≡ true → d ≡ 45
is_sign d h = grind (arith, nat_tests)

body_found : (negative : Bool) (body : List ℕ) (n : ℕ) (z : ℤ) → body ≢ [] → IsSum units body n → long_of (signed negative n) ≡ Some z → body_of negative body ≡ Some z
body_found negative [] n z some s v = absurd (some refl)
body_found negative (b ∷ bs) n z some s v = ap (signed_long negative) (sum_found units (b ∷ bs) n units_distinct s) ∙ v

plain : (body : List ℕ) → DigitFirst body → duration_of body ≡ body_of false body
plain [] h = refl
plain (b ∷ bs) h = rw (no_sign b h) refl

-- the text of a duration with its sign
text_found : (negative : Bool) (text body : List ℕ) (n : ℕ) (z : ℤ) → text ≡ (if negative then 45 ∷ [] else []) ++ body → body ≢ [] → IsSum units body n
    → long_of (signed negative n) ≡ Some z → duration_of text ≡ Some z
text_found true text body n z e some s v = ap duration_of e ∙ body_found true body n z some s v
text_found false text body n z e some s v = ap duration_of e ∙ plain body (sum_starts units body n s) ∙ body_found false body n z some s v

pub duration_found : (text : List ℕ) (z : ℤ) → IsDuration text z → duration_of text ≡ Some z
duration_found text z h = text_found h.negative text h.body h.milliseconds z h.text_is h.some_part h.sum h.value

signed_some : (negative : Bool) (o : Option ℕ) (z : ℤ) → signed_long negative o ≡ Some z → (n : ℕ) × (o ≡ Some n) × (long_of (signed negative n) ≡ Some z)
signed_some negative None z h = cc
signed_some negative (Some n) z h = (n, refl, h)

body_is : (text body : List ℕ) (negative : Bool) (z : ℤ) → text ≡ (if negative then 45 ∷ [] else []) ++ body → body_of negative body ≡ Some z → IsDuration text z
body_is text [] negative z e h = cc
body_is text (b ∷ bs) negative z e h =
    let s = signed_some negative (sum_of units (b ∷ bs)) z h in
    record {
      negative = negative;
      body = b ∷ bs;
      milliseconds = s.0;
      text_is = e;
      some_part = λ p. cc;
      sum = sum_is units (b ∷ bs) s.0 s.1;
      value = s.2;
    }

by_sign : (b : ℕ) (bs : List ℕ) (z : ℤ) (t : Bool) → (b == 45) ≡ t → (if t then body_of true bs else body_of false (b ∷ bs)) ≡ Some z → IsDuration (b ∷ bs) z
by_sign b bs z true e h = body_is (b ∷ bs) bs true z (ap (λ (x : ℕ). x ∷ bs) (is_sign b e)) h
by_sign b bs z false e h = body_is (b ∷ bs) (b ∷ bs) false z refl h

pub duration_is : (text : List ℕ) (z : ℤ) → duration_of text ≡ Some z → IsDuration text z
duration_is [] z h = cc
duration_is (b ∷ bs) z h = by_sign b bs z (b == 45) refl h

pub duration_some : (text : List ℕ) (o : Option ℤ) → o ≡ duration_of text → IfSome o (λ z. IsDuration text z)
duration_some text None e = tt
duration_some text (Some z) e = duration_is text z (sym e)

pub duration_none : (text : List ℕ) (o : Option ℤ) → o ≡ duration_of text → IfNone o ((z : ℤ) → IsDuration text z → ⊥)
duration_none text None e = λ z h. let r = duration_found text z h in cc
duration_none text (Some z) e = tt
