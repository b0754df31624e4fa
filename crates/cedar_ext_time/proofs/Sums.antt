-- A text is of so many milliseconds exactly where the function finds them.
use Rattle.std.proofs.Common.{◌≡◌, ℕ, ◌+◌, ◌*◌, Bool, true, false, not, nat_lt, List, [], ◌∷◌, ◌++◌, length, take, drop, Option, Some, None, inl, inr, refl, sym, ap, ◌∙◌, arith}
use Rattle.std.specs.List.{list_all, prefix_len}
use Rattle.std.specs.Char.{is_ascii_digit}
use Rattle.std.specs.Str.{bytes_eq}
use Rattle.std.proofs.lemmas.Slice.Eq.{bytes_eq-Decides}
use Rattle.std.proofs.lemmas.List.{take-append-drop}
use Rattle.std.proofs.Math.Seq.{take-append_seam, drop-append-add}
use Rattle.cedar_ext_time.specs.Digits.{is_number, number_of}
use Rattle.cedar_ext_time.specs.Units.{name_of, milliseconds_of, units}
use Rattle.cedar_ext_time.specs.Durations.{IsSum}
use Rattle.cedar_ext_time.specs.DurationOf.{digits_len, letters_len, begins_with, after_part, plus, sum_of}
use Rattle.cedar_ext_time.specs.declared.unit.Unit.{Unit as Part}
use Rattle.cedar_ext_time.specs.declared.unit.Unit.TheVariants.{Days, Hours, Minutes, Seconds, Milliseconds}
use Rattle.cedar_ext_time.proofs.Runs.{and_first, and_second, and_both, Stops, prefix_run, still_digit, all_still, front_digits, front_len}

abbrev not_digit : ℕ → Bool
not_digit b = not (is_ascii_digit b)

-- the text is empty, or begins with a digit
abbrev pub DigitFirst : List ℕ → Type 0
DigitFirst [] = Unit {0}
DigitFirst (b ∷ bs) = is_ascii_digit b ≡ true

digit_first-append : (digits rest : List ℕ) → is_number digits ≡ true → DigitFirst (digits ++ rest)
digit_first-append [] rest h = cc
digit_first-append (d ∷ digits) rest h = and_first _ _ (and_second _ _ h)

pub sum_starts : (us : List Part) (text : List ℕ) (n : ℕ) → IsSum us text n → DigitFirst text
unfolding IsSum
sum_starts [] text n h = rw h.0 tt
sum_starts (u ∷ us) text n (inl h) = sum_starts us text n h
sum_starts (u ∷ us) text n (inr h) = rw h.4 (digit_first-append h.0 (name_of u ++ h.1) h.3)

letters_stop : (rest : List ℕ) → DigitFirst rest → Stops not_digit rest
letters_stop [] h = tt
letters_stop (b ∷ bs) h = rw h refl

name_letters : (u : Part) → list_all not_digit (name_of u) ≡ true
name_letters Days = refl
name_letters Hours = refl
name_letters Minutes = refl
name_letters Seconds = refl
name_letters Milliseconds = refl

name_stops : (u : Part) (rest : List ℕ) → Stops still_digit (name_of u ++ rest)
name_stops Days rest = refl
name_stops Hours rest = refl
name_stops Minutes rest = refl
name_stops Seconds rest = refl
name_stops Milliseconds rest = refl

-- how a text with a part at its beginning is cut
record Cut (u : Part) (digits rest text : List ℕ) : Type 0 where
  front : take (digits_len text) text ≡ digits
  begins : (v : Part) → begins_with v text ≡ bytes_eq (name_of u) (name_of v)
  after : after_part text ≡ rest

above_zero : (digits : List ℕ) → is_number digits ≡ true → nat_lt 0 (length digits) ≡ true
above_zero digits h = and_first _ _ h

drop_seam : (xs ys : List ℕ) → drop (length xs) (xs ++ ys) ≡ ys
drop_seam xs ys = ap (λ (n : ℕ). drop n (xs ++ ys)) (omega arith) ∙ drop-append-add xs ys 0

cut_part : (u : Part) (digits rest : List ℕ) → is_number digits ≡ true → DigitFirst rest → Cut u digits rest (digits ++ (name_of u ++ rest))
cut_part u digits rest h s =
    let d : prefix_len still_digit (digits ++ (name_of u ++ rest)) ≡ length digits = prefix_run still_digit digits (name_of u ++ rest) (all_still digits ∙ and_second _ _ h) (name_stops u rest) in
    let a : drop (length digits) (digits ++ (name_of u ++ rest)) ≡ name_of u ++ rest = drop_seam digits (name_of u ++ rest) in
    let l : prefix_len not_digit (name_of u ++ rest) ≡ length (name_of u) = prefix_run not_digit (name_of u) rest (name_letters u) (letters_stop rest s) in
    let n : take (length (name_of u)) (name_of u ++ rest) ≡ name_of u = take-append_seam (name_of u) rest in
    let some : nat_lt 0 (length digits) ≡ true = above_zero digits h in
    record {
      front = rw d (take-append_seam digits (name_of u ++ rest));
      begins = λ v. rw (d, a, l, n, some) refl;
      after = rw (d, a, l) (drop_seam (name_of u) rest);
    }

-- none of the units has the name of u
abbrev Fresh : Part → List Part → Type 0
Fresh u [] = Unit {0}
Fresh u (v ∷ us) = (bytes_eq (name_of v) (name_of u) ≡ false) × Fresh u us

abbrev pub Distinct : List Part → Type 0
Distinct [] = Unit {0}
Distinct (u ∷ us) = Fresh u us × Distinct us

begins_other : (u : Part) (us : List Part) (text : List ℕ) (n : ℕ) → Fresh u us → IsSum us text n → begins_with u text ≡ false
unfolding IsSum
begins_other u [] text n f h = rw h.0 refl
begins_other u (v ∷ us) text n f (inl h) = begins_other u us text n f.1 h
begins_other u (v ∷ us) text n f (inr h) =
    let c = cut_part v h.0 h.1 h.3 (sum_starts us h.1 h.2 h.5) in
    rw h.4 (c.begins u ∙ f.0)

same_name : (u : Part) → bytes_eq (name_of u) (name_of u) ≡ true
same_name Days = refl
same_name Hours = refl
same_name Minutes = refl
same_name Seconds = refl
same_name Milliseconds = refl

sum_here : (u : Part) (us : List Part) (text : List ℕ) → begins_with u text ≡ true
    → sum_of (u ∷ us) text ≡ plus (number_of (take (digits_len text) text) * milliseconds_of u) (sum_of us (after_part text))
unfolding sum_of
sum_here u us text h = rw h refl

sum_later : (u : Part) (us : List Part) (text : List ℕ) → begins_with u text ≡ false → sum_of (u ∷ us) text ≡ sum_of us text
unfolding sum_of
sum_later u us text h = rw h refl

pub sum_found : (us : List Part) (text : List ℕ) (n : ℕ) → Distinct us → IsSum us text n → sum_of us text ≡ Some n
unfolding IsSum sum_of
sum_found [] text n d h = rw (h.0, h.1) refl
sum_found (u ∷ us) text n d (inl h) = sum_later u us text (begins_other u us text n d.0 h) ∙ sum_found us text n d.1 h
sum_found (u ∷ us) text n d (inr h) =
    let c = cut_part u h.0 h.1 h.3 (sum_starts us h.1 h.2 h.5) in
    let found : sum_of us h.1 ≡ Some h.2 = sum_found us h.1 h.2 d.1 h.5 in
    rw (h.4, h.6) (sum_here u us (h.0 ++ (name_of u ++ h.1)) (c.begins u ∙ same_name u) ∙ rw (c.front, c.after, found) refl)

plus_some : (k n : ℕ) (o : Option ℕ) → plus k o ≡ Some n → (m : ℕ) × (o ≡ Some m) × (n ≡ k + m)
plus_some k n None h = cc
plus_some k n (Some m) h = (m, refl, cc)

-- the parts of a text that begins with a part
text_cut : (u : Part) (text : List ℕ) → begins_with u text ≡ true
    → (is_number (take (digits_len text) text) ≡ true) × (text ≡ take (digits_len text) text ++ (name_of u ++ after_part text))
text_cut u text h =
    let after = drop (digits_len text) text in
    let name : take (letters_len after) after ≡ name_of u = (bytes_eq-Decides (take (letters_len after) after) (name_of u)).0 (and_second _ _ h) in
    let len : length (take (digits_len text) text) ≡ digits_len text = front_len text in
    let all : list_all is_ascii_digit (take (digits_len text) text) ≡ true = front_digits text in
    let some : nat_lt 0 (digits_len text) ≡ true = and_first _ _ h in
    let rest : after ≡ name_of u ++ after_part text = sym (take-append-drop (letters_len after) after) ∙ ap (λ (x : List ℕ). x ++ after_part text) name in (
      and_both _ _ (ap (λ (n : ℕ). nat_lt 0 n) len ∙ some) all,
      sym (take-append-drop (digits_len text) text) ∙ ap (λ (x : List ℕ). take (digits_len text) text ++ x) rest,
    )

sum_step : (u : Part) (us : List Part) (text : List ℕ) (n : ℕ) → ((t : List ℕ) (m : ℕ) → sum_of us t ≡ Some m → IsSum us t m)
    → sum_of (u ∷ us) text ≡ Some n → (b : Bool) → begins_with u text ≡ b → IsSum (u ∷ us) text n
unfolding IsSum
sum_step u us text n later h false e = inl (later text n (sym (sum_later u us text e) ∙ h))
sum_step u us text n later h true e =
    let p = plus_some _ n (sum_of us (after_part text)) (sym (sum_here u us text e) ∙ h) in
    let c = text_cut u text e in
    inr (take (digits_len text) text, after_part text, p.0, c.0, c.1, later (after_part text) p.0 p.1, p.2)

pub sum_is : (us : List Part) (text : List ℕ) (n : ℕ) → sum_of us text ≡ Some n → IsSum us text n
unfolding IsSum sum_of
sum_is [] [] n h = (refl, cc)
sum_is [] (b ∷ bs) n h = cc
sum_is (u ∷ us) text n h = sum_step u us text n (sum_is us) h (begins_with u text) refl

pub units_distinct : Distinct units
units_distinct = ((refl, (refl, (refl, (refl, tt)))), ((refl, (refl, (refl, tt))), ((refl, (refl, tt)), ((refl, tt), (tt, tt)))))
