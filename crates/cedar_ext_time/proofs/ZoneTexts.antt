-- A text is a fraction of a second, or a zone, exactly where the function finds its value.
use Rattle.std.proofs.Common.{◌≡◌, ℕ, ◌&&◌, ℤ, pos, Bool, true, false, Option, Some, None, if◌then◌else◌, nat_eq, List, [], ◌∷◌, ◌++◌, length, take, drop, inl, inr, refl, sym, ap, ◌∙◌, arith, length-append, eqb-true}
use Rattle.std.specs.Bool.{◌==◌}
use Rattle.cedar_ext_time.specs.Digits.{are_digits, number_of}
use Rattle.cedar_ext_time.specs.Durations.{signed}
use Rattle.cedar_ext_time.specs.Datetimes.{IsFraction, IsOffset, IsZone, is_clock, clock_milliseconds}
use Rattle.cedar_ext_time.specs.DatetimeOf.{fraction_of, zone_of, offset_of, signed_offset, clock_of, fraction_len}
use Rattle.cedar_ext_time.proofs.Runs.{and_first, and_second, and_both}
use Rattle.cedar_ext_time.proofs.Cut.{with_two, with_four, digits_length, same_byte, tested, some_is}

fraction_digits : (digits : List ℕ) → are_digits 3 digits ≡ true → fraction_of (46 ∷ digits) ≡ Some (number_of digits)
unfolding fraction_of
fraction_digits digits h = rw h refl

no_fraction : fraction_of [] ≡ Some 0
unfolding fraction_of
no_fraction = refl

pub fraction_found : (text : List ℕ) (n : ℕ) → IsFraction text n → fraction_of text ≡ Some n
fraction_found text n (inl h) = ap fraction_of h.0 ∙ no_fraction ∙ ap Some (sym h.1)
fraction_found text n (inr h) = ap fraction_of h.1 ∙ fraction_digits h.0 h.2 ∙ ap Some (sym h.3)

pub fraction_is : (text : List ℕ) (n : ℕ) → fraction_of text ≡ Some n → IsFraction text n
unfolding fraction_of
fraction_is [] n h = inl (refl, some_is 0 n h)
fraction_is (b ∷ digits) n h =
    let t = tested ((b == 46) && are_digits 3 digits) (Some (number_of digits)) n h in
    inr (digits, ap (λ (x : ℕ). x ∷ digits) (same_byte b 46 (and_first _ _ t.0)), and_second _ _ t.0, some_is _ n t.1)

-- four digits are two and two
four_digits : (a b c d : ℕ) → are_digits 2 (a ∷ b ∷ []) ≡ true → are_digits 2 (c ∷ d ∷ []) ≡ true → are_digits 4 (a ∷ b ∷ c ∷ d ∷ []) ≡ true
four_digits a b c d h m = and_both _ _ (and_first _ _ h) (and_both _ _ (and_first _ _ (and_second _ _ h)) m)

first_digits : (a b c d : ℕ) → are_digits 4 (a ∷ b ∷ c ∷ d ∷ []) ≡ true → are_digits 2 (a ∷ b ∷ []) ≡ true
first_digits a b c d h = and_both _ _ (and_first _ _ h) (and_both _ _ (and_first _ _ (and_second _ _ h)) refl)

last_digits : (a b c d : ℕ) → are_digits 4 (a ∷ b ∷ c ∷ d ∷ []) ≡ true → are_digits 2 (c ∷ d ∷ []) ≡ true
last_digits a b c d h = and_second _ _ (and_second _ _ h)

abbrev OffsetGoal : List ℕ → List ℕ → Type 0
OffsetGoal hours minutes =
    are_digits 2 hours ≡ true → are_digits 2 minutes ≡ true → is_clock (number_of hours) (number_of minutes) 0 ≡ true
    → offset_of (hours ++ minutes) ≡ Some (clock_milliseconds (number_of hours) (number_of minutes) 0)

offset_spelled : (a b c d : ℕ) → OffsetGoal (a ∷ b ∷ []) (c ∷ d ∷ [])
offset_spelled a b c d = λ h m k. rw (four_digits a b c d h m, k) refl

offset_goal : (hours minutes : List ℕ) → length hours ≡ 2 → length minutes ≡ 2 → OffsetGoal hours minutes
offset_goal hours minutes p q =
    with_two (λ h. OffsetGoal h minutes) (λ a b. with_two (λ m. OffsetGoal (a ∷ b ∷ []) m) (λ c d. offset_spelled a b c d) minutes q) hours p

zone_sign : (west : Bool) (digits : List ℕ) → zone_of ((if west then 45 else 43) ∷ digits) ≡ signed_offset west (offset_of digits)
unfolding zone_of
zone_sign true digits = refl
zone_sign false digits = refl

zone_utc : zone_of (90 ∷ []) ≡ Some (pos 0)
unfolding zone_of
zone_utc = refl

pub zone_found : (text : List ℕ) (z : ℤ) → IsZone text z → zone_of text ≡ Some z
zone_found text z (inl h) = ap zone_of h.0 ∙ zone_utc ∙ ap Some (sym h.1)
zone_found text z (inr h) =
    let g = offset_goal h.hours h.minutes (digits_length 2 h.hours h.hours_digits) (digits_length 2 h.minutes h.minutes_digits) h.hours_digits h.minutes_digits h.there in
    ap zone_of h.text_is ∙ zone_sign h.west (h.hours ++ h.minutes) ∙ ap (signed_offset h.west) g ∙ ap Some (sym h.milliseconds_are)

signed_some : (west : Bool) (o : Option ℕ) (z : ℤ) → signed_offset west o ≡ Some z → (n : ℕ) × (o ≡ Some n) × (z ≡ signed west n)
signed_some west None z h = cc
signed_some west (Some n) z h = (n, refl, some_is _ z h)

abbrev OffsetIs : Bool → ℤ → List ℕ → Type 0
OffsetIs west z digits =
    are_digits 4 digits ≡ true → is_clock (number_of (take 2 digits)) (number_of (take 2 (drop 2 digits))) 0 ≡ true
    → z ≡ signed west (clock_milliseconds (number_of (take 2 digits)) (number_of (take 2 (drop 2 digits))) 0) → IsOffset ((if west then 45 else 43) ∷ digits) z

offset_four : (west : Bool) (z : ℤ) (a b c d : ℕ) → OffsetIs west z (a ∷ b ∷ c ∷ d ∷ [])
offset_four west z a b c d = λ h k v. record {
  west = west;
  hours = a ∷ b ∷ [];
  minutes = c ∷ d ∷ [];
  text_is = refl;
  hours_digits = first_digits a b c d h;
  minutes_digits = last_digits a b c d h;
  there = k;
  milliseconds_are = v;
}

offset_is : (west : Bool) (digits : List ℕ) (z : ℤ) → signed_offset west (offset_of digits) ≡ Some z → IsOffset ((if west then 45 else 43) ∷ digits) z
offset_is west digits z h =
    let s = signed_some west (offset_of digits) z h in
    let t = tested (are_digits 4 digits) (clock_of (number_of (take 2 digits)) (number_of (take 2 (drop 2 digits))) 0) s.0 s.1 in
    let u = tested (is_clock (number_of (take 2 digits)) (number_of (take 2 (drop 2 digits))) 0) (Some (clock_milliseconds (number_of (take 2 digits)) (number_of (take 2 (drop 2 digits))) 0)) s.0 t.1 in
    with_four (OffsetIs west z) (offset_four west z) digits (digits_length 4 digits t.0) t.0 u.0 (s.2 ∙ ap (signed west) (some_is _ s.0 u.1))

sign_is : (b c : ℕ) (west : Bool) (digits : List ℕ) (z : ℤ) → (if west then 45 else 43) ≡ c → (b == c) ≡ true → signed_offset west (offset_of digits) ≡ Some z → IsZone (b ∷ digits) z
sign_is b c west digits z e k h =
    let s : b ≡ (if west then 45 else 43) = same_byte b c k ∙ sym e in
    inr (rw s (offset_is west digits z h))

empty_if : (digits : List ℕ) → nat_eq (length digits) 0 ≡ true → digits ≡ []
empty_if [] h = refl
empty_if (d ∷ digits) h = let e : length (d ∷ digits) ≡ 0 = eqb-true _ 0 h in absurd (omega arith)

by_letter : (b : ℕ) (digits : List ℕ) (z : ℤ) (utc west east : Bool) → ((b == 90) && nat_eq (length digits) 0) ≡ utc → (b == 45) ≡ west → (b == 43) ≡ east
    → (if utc then Some (pos 0) else (if west then signed_offset true (offset_of digits) else (if east then signed_offset false (offset_of digits) else None))) ≡ Some z
    → IsZone (b ∷ digits) z
by_letter b digits z true west east u w e h =
    let letter : b ≡ 90 = same_byte b 90 (and_first _ _ u) in
    let none : digits ≡ [] = empty_if digits (and_second _ _ u) in
    inl (rw (letter, none) refl, some_is (pos 0) z h)
by_letter b digits z false true east u w e h = sign_is b 45 true digits z refl w h
by_letter b digits z false false true u w e h = sign_is b 43 false digits z refl e h
by_letter b digits z false false false u w e h = cc

pub zone_is : (text : List ℕ) (z : ℤ) → zone_of text ≡ Some z → IsZone text z
unfolding zone_of
zone_is [] z h = cc
zone_is (b ∷ digits) z h = by_letter b digits z ((b == 90) && nat_eq (length digits) 0) (b == 45) (b == 43) refl refl refl h

-- where a zone begins, there is no fraction
zone_len : (zone : List ℕ) (z : ℤ) → IsZone zone z → fraction_len zone ≡ 0
zone_len zone z (inl h) = ap fraction_len h.0
zone_len zone z (inr h) = ap fraction_len h.text_is ∙ sign_len h.west (h.hours ++ h.minutes)
  where
    sign_len : (west : Bool) (digits : List ℕ) → fraction_len ((if west then 45 else 43) ∷ digits) ≡ 0
    sign_len true digits = refl
    sign_len false digits = refl

-- how many bytes the fraction has
pub fraction_cut : (fraction zone : List ℕ) (n : ℕ) (z : ℤ) → IsFraction fraction n → IsZone zone z → length fraction ≡ fraction_len (fraction ++ zone)
fraction_cut fraction zone n z (inl h) k = rw h.0 (sym (zone_len zone z k))
fraction_cut fraction zone n z (inr h) k =
    rw h.1 (omega (arith, length-append h.0 zone, digits_length 3 h.0 h.2))
