-- A text reads as a datetime exactly where it is one.
use Rattle.std.proofs.Common.{◌≡◌, ℕ, ℤ, ◌-ℤ◌, ◌+◌, ◌*◌, Bool, true, false, List, ◌++◌, length, take, drop, Option, Some, None, IfSome, IfNone, if◌then◌else◌, nat_lt, inl, inr, refl, sym, ap, ◌∙◌, arith, length-append}
use Rattle.std.proofs.lemmas.List.{take-append-drop}
use Rattle.cedar_ext_time.specs.Datetimes.{IsDate, IsTime, IsFraction, IsZone, IsDay, IsMoment, IsDatetime, since_1970}
use Rattle.cedar_ext_time.specs.DatetimeOf.{date_of, time_of, fraction_of, zone_of, fraction_len, midnight_of, joined, moment_of, datetime_of}
use Rattle.cedar_ext_time.proofs.Cut.{take_first, drop_first, not_less, less, some_is}
use Rattle.cedar_ext_time.proofs.DateTexts.{date_found, date_is, date_length, time_found, time_is, time_length}
use Rattle.cedar_ext_time.proofs.ZoneTexts.{fraction_found, fraction_is, zone_found, zone_is, fraction_cut}

datetime_short : (text : List ℕ) → length text ≡ 10 → datetime_of text ≡ midnight_of (date_of text)
datetime_short text h = let l : nat_lt (length text) 19 ≡ true = less (length text) 19 (omega arith) in rw l refl

-- a text that is cut into a date, a time of day and what follows
datetime_long : (date time rest : List ℕ) → length date ≡ 10 → length time ≡ 9 → datetime_of (date ++ (time ++ rest)) ≡ moment_of date time rest
datetime_long date time rest p q =
    let l : nat_lt (length (date ++ (time ++ rest))) 19 ≡ false = not_less _ 19 (omega (arith, length-append date (time ++ rest), length-append time rest)) in
    let d : take 10 (date ++ (time ++ rest)) ≡ date = take_first date (time ++ rest) 10 p in
    let a : drop 10 (date ++ (time ++ rest)) ≡ time ++ rest = drop_first date (time ++ rest) 10 p in
    let t : take 9 (time ++ rest) ≡ time = take_first time rest 9 q in
    let r : drop 9 (time ++ rest) ≡ rest = drop_first time rest 9 q in
    rw (l, d, a, t, r) refl

moment_found : (date time fraction zone : List ℕ) (days seconds part : ℕ) (offset : ℤ) → IsDate date days → IsTime time seconds → IsFraction fraction part → IsZone zone offset
    → moment_of date time (fraction ++ zone) ≡ Some (since_1970 (days * 86400000 + seconds + part) -ℤ offset)
moment_found date time fraction zone days seconds part offset d t f o =
    let cut = fraction_cut fraction zone part offset f o in
    let front : take (fraction_len (fraction ++ zone)) (fraction ++ zone) ≡ fraction = take_first fraction zone _ cut in
    let back : drop (fraction_len (fraction ++ zone)) (fraction ++ zone) ≡ zone = drop_first fraction zone _ cut in
    ap (λ (x : List ℕ). joined (date_of date) (time_of time) (fraction_of x) (zone_of (drop (fraction_len (fraction ++ zone)) (fraction ++ zone)))) front
    ∙ ap (λ (x : List ℕ). joined (date_of date) (time_of time) (fraction_of fraction) (zone_of x)) back
    ∙ rw (date_found date days d, time_found time seconds t, fraction_found fraction part f, zone_found zone offset o) refl

pub datetime_found : (text : List ℕ) (z : ℤ) → IsDatetime text z → datetime_of text ≡ Some z
datetime_found text z (inl h) = datetime_short text (date_length text h.0 h.1) ∙ ap midnight_of (date_found text h.0 h.1) ∙ ap Some (sym h.2)
datetime_found text z (inr h) =
    ap datetime_of h.text_is
    ∙ datetime_long h.date h.time (h.fraction ++ h.zone) (date_length h.date h.days h.date_is) (time_length h.time h.seconds h.time_is)
    ∙ moment_found h.date h.time h.fraction h.zone h.days h.seconds h.part h.offset h.date_is h.time_is h.fraction_is h.zone_is
    ∙ ap Some (sym h.value)

midnight_some : (o : Option ℕ) (z : ℤ) → midnight_of o ≡ Some z → (n : ℕ) × (o ≡ Some n) × (z ≡ since_1970 (n * 86400000))
midnight_some None z h = cc
midnight_some (Some n) z h = (n, refl, some_is _ z h)

record Parts (d t f : Option ℕ) (o : Option ℤ) (z : ℤ) : Type 0 where
  days : ℕ
  seconds : ℕ
  part : ℕ
  offset : ℤ
  days_are : d ≡ Some days
  seconds_are : t ≡ Some seconds
  part_is : f ≡ Some part
  offset_is : o ≡ Some offset
  value : z ≡ since_1970 (days * 86400000 + seconds + part) -ℤ offset

joined_some : (d t f : Option ℕ) (o : Option ℤ) (z : ℤ) → joined d t f o ≡ Some z → Parts d t f o z
joined_some (Some days) (Some seconds) (Some part) (Some offset) z h = record {
  days = days;
  seconds = seconds;
  part = part;
  offset = offset;
  days_are = refl;
  seconds_are = refl;
  part_is = refl;
  offset_is = refl;
  value = some_is _ z h;
}
joined_some _ _ _ _ z h = cc

moment_is : (text : List ℕ) (z : ℤ) → moment_of (take 10 text) (take 9 (drop 10 text)) (drop 9 (drop 10 text)) ≡ Some z → IsMoment text z
moment_is text z h =
    let after = drop 10 text in
    let rest = drop 9 after in
    let p = joined_some (date_of (take 10 text)) (time_of (take 9 after)) (fraction_of (take (fraction_len rest) rest)) (zone_of (drop (fraction_len rest) rest)) z h in
    let r : rest ≡ take (fraction_len rest) rest ++ drop (fraction_len rest) rest = sym (take-append-drop (fraction_len rest) rest) in
    let a : after ≡ take 9 after ++ (take (fraction_len rest) rest ++ drop (fraction_len rest) rest) = sym (take-append-drop 9 after) ∙ ap (λ (x : List ℕ). take 9 after ++ x) r in
    record {
      date = take 10 text;
      time = take 9 after;
      fraction = take (fraction_len rest) rest;
      zone = drop (fraction_len rest) rest;
      days = p.days;
      seconds = p.seconds;
      part = p.part;
      offset = p.offset;
      text_is = sym (take-append-drop 10 text) ∙ ap (λ (x : List ℕ). take 10 text ++ x) a;
      date_is = date_is (take 10 text) p.days p.days_are;
      time_is = time_is (take 9 after) p.seconds p.seconds_are;
      fraction_is = fraction_is (take (fraction_len rest) rest) p.part p.part_is;
      zone_is = zone_is (drop (fraction_len rest) rest) p.offset p.offset_is;
      value = p.value;
    }

day_is : (text : List ℕ) (z : ℤ) → midnight_of (date_of text) ≡ Some z → IsDay text z
day_is text z h = let m = midnight_some (date_of text) z h in (m.0, date_is text m.0 m.1, m.2)

by_length : (text : List ℕ) (z : ℤ) (short : Bool)
    → (if short then midnight_of (date_of text) else moment_of (take 10 text) (take 9 (drop 10 text)) (drop 9 (drop 10 text))) ≡ Some z → IsDatetime text z
by_length text z true h = inl (day_is text z h)
by_length text z false h = inr (moment_is text z h)

pub datetime_is : (text : List ℕ) (z : ℤ) → datetime_of text ≡ Some z → IsDatetime text z
datetime_is text z h = by_length text z (nat_lt (length text) 19) h

pub datetime_some : (text : List ℕ) (o : Option ℤ) → o ≡ datetime_of text → IfSome o (λ z. IsDatetime text z)
datetime_some text None e = tt
datetime_some text (Some z) e = datetime_is text z (sym e)

pub datetime_none : (text : List ℕ) (o : Option ℤ) → o ≡ datetime_of text → IfNone o ((z : ℤ) → IsDatetime text z → ⊥)
datetime_none text None e = λ z h. let r = datetime_found text z h in cc
datetime_none text (Some z) e = tt
