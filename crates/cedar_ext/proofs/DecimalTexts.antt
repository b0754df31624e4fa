-- A text reads as a decimal exactly where it is one.
use Rattle.std.proofs.Common.{◌≡◌, ℕ, ℤ, ◌+◌, ◌-◌, ◌*◌, ◌^◌, ◌<◌, ◌≤◌, ◌&&◌, Bool, true, false, not, Option, Some, None, IfSome, IfNone, if◌then◌else◌, nat_le, nat_lt, List, [], ◌∷◌, ◌++◌, length, take, drop, get_or, refl, arith, ap, sym, ◌∙◌, add-one, length-append}
use Rattle.std.specs.List.{list_all, position, position_or_len, prefix_len}
use Rattle.std.specs.Bool.{◌==◌}
use Rattle.std.specs.Char.{is_ascii_digit}
use Rattle.std.proofs.lemmas.Bool.Decides.{nat_tests}
use Rattle.std.proofs.Math.Seq.{take-append_seam, drop-append-add, drop-cons}
use Rattle.std.proofs.lemmas.List.{take-append-drop}
use Rattle.std.proofs.lemmas.List.Quantifiers.{position-Some}
use Rattle.cedar_ext.specs.Decimals.{IsDecimal, signed_units, is_number, number_of}
use Rattle.cedar_ext.specs.DecimalOf.{decimal_of, units_of, units_around}
use Rattle.cedar_ext.proofs.Digits.{units_of-parts, and_first, and_second}

digit_no_point : (d : ℕ) → is_ascii_digit d ≡ true → (d == 46) ≡ false
digit_no_point d h = grind (arith, nat_tests)

digit_no_sign : (d : ℕ) → is_ascii_digit d ≡ true → (d == 45) ≡ false
digit_no_sign d h = grind (arith, nat_tests)

point_after : (whole rest : List ℕ) → list_all is_ascii_digit whole ≡ true → position_or_len (λ b. b == 46) (whole ++ 46 ∷ rest) ≡ length whole
point_after [] rest h = refl
point_after (d ∷ whole) rest h =
    let n : (d == 46) ≡ false = digit_no_point d (and_first _ _ h) in
    let later : prefix_len (λ x. not (x == 46)) (whole ++ 46 ∷ rest) ≡ length whole = point_after whole rest (and_second _ _ h) in
    rw n (omega arith)

below : (m n : ℕ) → m < n → nat_lt m n ≡ true
below m n h = grind (arith, nat_tests)

first_point : (whole rest : List ℕ) → list_all is_ascii_digit whole ≡ true → position (λ b. b == 46) (whole ++ 46 ∷ rest) ≡ Some (length whole)
first_point whole rest h =
    let lt : nat_lt (length whole) (length (whole ++ 46 ∷ rest)) ≡ true = below _ _ (omega (arith, length-append whole (46 ∷ rest))) in
    rw (point_after whole rest h, lt) refl

-- the reading of a decimal
units_of-decimal : (negative : Bool) (whole fraction : List ℕ) → is_number whole ≡ true → is_number fraction ≡ true → length fraction ≤ 4
    → units_of negative (whole ++ 46 ∷ fraction) ≡ signed_units negative (number_of whole * 10000 + number_of fraction * 10 ^ (4 - length fraction))
units_of-decimal negative whole fraction w f short =
    let place = sym (first_point whole fraction (and_second _ _ w)) in
    let t : take (length whole) (whole ++ 46 ∷ fraction) ≡ whole = take-append_seam whole (46 ∷ fraction) in
    let d : drop (length whole + 1) (whole ++ 46 ∷ fraction) ≡ fraction = drop-append-add whole (46 ∷ fraction) 1 in
    let parts = units_of-parts negative (whole ++ 46 ∷ fraction) (length whole) place (rw t w) (rw d f) (rw d short) in
    rw (t, d) at parts

no_sign : (whole fraction : List ℕ) → is_number whole ≡ true → decimal_of (whole ++ 46 ∷ fraction) ≡ units_of false (whole ++ 46 ∷ fraction)
no_sign [] fraction w = cc
no_sign (d ∷ whole) fraction w =
    let n : (d == 45) ≡ false = digit_no_sign d (and_first _ _ (and_second _ _ w)) in
    rw n refl

pub decimal_of-IsDecimal : (text : List ℕ) (z : ℤ) → IsDecimal text z → decimal_of text ≡ Some z
decimal_of-IsDecimal text z h = by h.negative h.whole h.fraction h.text_is h.whole_number h.fraction_number h.short h.units_are
  where
    by : (negative : Bool) (whole fraction : List ℕ) → text ≡ (if negative then 45 ∷ [] else []) ++ (whole ++ 46 ∷ fraction) → is_number whole ≡ true → is_number fraction ≡ true → length fraction ≤ 4
        → signed_units negative (number_of whole * 10000 + number_of fraction * 10 ^ (4 - length fraction)) ≡ Some z → decimal_of text ≡ Some z
    by true whole fraction e w f s u = rw e (units_of-decimal true whole fraction w f s ∙ u)
    by false whole fraction e w f s u = rw e (no_sign whole fraction w ∙ units_of-decimal false whole fraction w f s ∙ u)

tested : (b : Bool) (o : Option ℤ) (z : ℤ) → (if b then o else None) ≡ Some z → (b ≡ true) × (o ≡ Some z)
tested true o z h = (refl, h)
tested false o z h = cc

equal_from : (m n : ℕ) → (m == n) ≡ true → m ≡ n
equal_from m n h = grind (arith, nat_tests)

within : (m n : ℕ) → nat_le m n ≡ true → m ≤ n
within m n h = grind (arith, nat_tests)

-- the parts of a body that reads
IsDecimal-body : (text body : List ℕ) (negative : Bool) (z : ℤ) → text ≡ (if negative then 45 ∷ [] else []) ++ body → units_of negative body ≡ Some z → IsDecimal text z
IsDecimal-body text body negative z e h = at (position (λ b. b == 46) body) refl h
  where
    at : (o : Option ℕ) → position (λ b. b == 46) body ≡ o → units_around negative body o ≡ Some z → IsDecimal text z
    at None p u = cc
    at (Some point) p u =
        let found = position-Some (λ (b : ℕ). b == 46) body point 0 p in
        let t = tested (is_number (take point body) && is_number (drop (point + 1) body) && nat_le (length (drop (point + 1) body)) 4) _ z u in
        let c : get_or body point 0 ≡ 46 = equal_from _ 46 found.1 in
        let d : drop point body ≡ 46 ∷ drop (point + 1) body = drop-cons body point 0 found.0 ∙ (rw (c, add-one) refl) in
        record {
          negative = negative;
          whole = take point body;
          fraction = drop (point + 1) body;
          text_is = e ∙ ap (λ (r : List ℕ). (if negative then 45 ∷ [] else []) ++ r) (sym (take-append-drop point body) ∙ ap (λ (r : List ℕ). take point body ++ r) d);
          whole_number = and_first _ _ (and_first _ _ t.0);
          fraction_number = and_second _ _ (and_first _ _ t.0);
          short = within _ 4 (and_second _ _ t.0);
          units_are = t.1;
        }

pub IsDecimal-decimal_of : (text : List ℕ) (z : ℤ) → decimal_of text ≡ Some z → IsDecimal text z
IsDecimal-decimal_of [] z h = cc
IsDecimal-decimal_of (b ∷ bs) z h = at (b == 45) refl
  where
    at : (t : Bool) → (b == 45) ≡ t → IsDecimal (b ∷ bs) z
    at true t = IsDecimal-body (b ∷ bs) bs true z (ap (λ (x : ℕ). x ∷ bs) (equal_from b 45 t)) (rw t at h)
    at false t = IsDecimal-body (b ∷ bs) (b ∷ bs) false z refl (rw t at h)

pub some_reads : (text : List ℕ) (o : Option ℤ) → o ≡ decimal_of text → IfSome o (λ z. IsDecimal text z)
some_reads text None e = tt
some_reads text (Some z) e = IsDecimal-decimal_of text z (sym e)

pub none_reads : (text : List ℕ) (o : Option ℤ) → o ≡ decimal_of text → IfNone o ((z : ℤ) → IsDecimal text z → ⊥)
none_reads text None e = λ z h. let r = decimal_of-IsDecimal text z h in cc
none_reads text (Some z) e = tt
