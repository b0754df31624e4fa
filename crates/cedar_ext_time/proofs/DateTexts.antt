-- A text is a date, or a time of day, exactly where the function finds its value.
use Rattle.std.proofs.Common.{◌≡◌, ℕ, true, Some, List, [], ◌∷◌, ◌++◌, length, take, drop, refl, sym, ap, ◌∙◌, arith, length-append, eqb-true}
use Rattle.cedar_ext_time.specs.Digits.{are_digits, number_of}
use Rattle.cedar_ext_time.specs.Calendar.{has_day, day_count}
use Rattle.cedar_ext_time.specs.Datetimes.{IsDate, IsTime, is_clock, clock_milliseconds}
use Rattle.cedar_ext_time.specs.DatetimeOf.{date_of, time_of, day_of, clock_of, has_date_form, has_time_form}
use Rattle.cedar_ext_time.proofs.Runs.{and_first, and_second}
use Rattle.cedar_ext_time.proofs.Cut.{with_two, with_four, with_nine, with_ten, digits_length, same_byte, tested, some_is}

abbrev DateGoal : List ℕ → List ℕ → List ℕ → Type 0
DateGoal year month day =
    are_digits 4 year ≡ true → are_digits 2 month ≡ true → are_digits 2 day ≡ true → has_day (number_of year) (number_of month) (number_of day) ≡ true
    → date_of (year ++ 45 ∷ (month ++ 45 ∷ day)) ≡ Some (day_count (number_of year) (number_of month) (number_of day))

date_spelled : (a b c d e f g h : ℕ) → DateGoal (a ∷ b ∷ c ∷ d ∷ []) (e ∷ f ∷ []) (g ∷ h ∷ [])
unfolding date_of
date_spelled a b c d e f g h = λ y m t k. rw (y, m, t, k) refl

date_goal : (year month day : List ℕ) → length year ≡ 4 → length month ≡ 2 → length day ≡ 2 → DateGoal year month day
date_goal year month day p q r =
    with_four (λ y. DateGoal y month day) (λ a b c d.
    with_two (λ m. DateGoal (a ∷ b ∷ c ∷ d ∷ []) m day) (λ e f.
    with_two (λ t. DateGoal (a ∷ b ∷ c ∷ d ∷ []) (e ∷ f ∷ []) t) (λ g h. date_spelled a b c d e f g h) day r) month q) year p

pub date_found : (text : List ℕ) (n : ℕ) → IsDate text n → date_of text ≡ Some n
date_found text n h =
    let g = date_goal h.year h.month h.day (digits_length 4 h.year h.year_digits) (digits_length 2 h.month h.month_digits) (digits_length 2 h.day h.day_digits)
    h.year_digits h.month_digits h.day_digits h.there in
    ap date_of h.text_is ∙ g ∙ ap Some (sym h.days_are)

pub date_length : (text : List ℕ) (n : ℕ) → IsDate text n → length text ≡ 10
date_length text n h =
    ap length h.text_is
    ∙ omega (
      arith,
      length-append h.year (45 ∷ (h.month ++ 45 ∷ h.day)),
      length-append h.month (45 ∷ h.day),
      digits_length 4 h.year h.year_digits,
      digits_length 2 h.month h.month_digits,
      digits_length 2 h.day h.day_digits,
    )

date_ten : (n a b c d e f g h i j : ℕ) → has_date_form (a ∷ b ∷ c ∷ d ∷ e ∷ f ∷ g ∷ h ∷ i ∷ j ∷ []) ≡ true
    → day_of (number_of (a ∷ b ∷ c ∷ d ∷ [])) (number_of (f ∷ g ∷ [])) (number_of (i ∷ j ∷ [])) ≡ Some n → IsDate (a ∷ b ∷ c ∷ d ∷ e ∷ f ∷ g ∷ h ∷ i ∷ j ∷ []) n
date_ten n a b c d e f g h i j t s =
    let k = tested (has_day (number_of (a ∷ b ∷ c ∷ d ∷ [])) (number_of (f ∷ g ∷ [])) (number_of (i ∷ j ∷ []))) (Some (day_count (number_of (a ∷ b ∷ c ∷ d ∷ [])) (number_of (f ∷ g ∷ [])) (number_of (i ∷ j ∷ [])))) n s in
    let front = and_first _ _ (and_first _ _ (and_first _ _ t)) in
    let first : e ≡ 45 = same_byte e 45 (and_first _ _ front) in
    let second : h ≡ 45 = same_byte h 45 (and_second _ _ front) in
    record {
      year = a ∷ b ∷ c ∷ d ∷ [];
      month = f ∷ g ∷ [];
      day = i ∷ j ∷ [];
      text_is = rw (first, second) refl;
      year_digits = and_second _ _ (and_first _ _ (and_first _ _ t));
      month_digits = and_second _ _ (and_first _ _ t);
      day_digits = and_second _ _ t;
      there = k.0;
      days_are = some_is _ n k.1;
    }

abbrev DateIs : ℕ → List ℕ → Type 0
DateIs n text = has_date_form text ≡ true → day_of (number_of (take 4 text)) (number_of (take 2 (drop 5 text))) (number_of (take 2 (drop 8 text))) ≡ Some n → IsDate text n

date_form_length : (text : List ℕ) → has_date_form text ≡ true → length text ≡ 10
date_form_length text h = eqb-true (length text) 10 (and_first _ _ (and_first _ _ (and_first _ _ (and_first _ _ (and_first _ _ h)))))

pub date_is : (text : List ℕ) (n : ℕ) → date_of text ≡ Some n → IsDate text n
unfolding date_of
date_is text n h =
    let t = tested (has_date_form text) (day_of (number_of (take 4 text)) (number_of (take 2 (drop 5 text))) (number_of (take 2 (drop 8 text)))) n h in
    with_ten (DateIs n) (date_ten n) text (date_form_length text t.0) t.0 t.1

abbrev TimeGoal : List ℕ → List ℕ → List ℕ → Type 0
TimeGoal hour minute second =
    are_digits 2 hour ≡ true → are_digits 2 minute ≡ true → are_digits 2 second ≡ true → is_clock (number_of hour) (number_of minute) (number_of second) ≡ true
    → time_of (84 ∷ (hour ++ 58 ∷ (minute ++ 58 ∷ second))) ≡ Some (clock_milliseconds (number_of hour) (number_of minute) (number_of second))

time_spelled : (a b c d e f : ℕ) → TimeGoal (a ∷ b ∷ []) (c ∷ d ∷ []) (e ∷ f ∷ [])
unfolding time_of
time_spelled a b c d e f = λ y m t k. rw (y, m, t, k) refl

time_goal : (hour minute second : List ℕ) → length hour ≡ 2 → length minute ≡ 2 → length second ≡ 2 → TimeGoal hour minute second
time_goal hour minute second p q r =
    with_two (λ y. TimeGoal y minute second) (λ a b.
    with_two (λ m. TimeGoal (a ∷ b ∷ []) m second) (λ c d.
    with_two (λ t. TimeGoal (a ∷ b ∷ []) (c ∷ d ∷ []) t) (λ e f. time_spelled a b c d e f) second r) minute q) hour p

pub time_found : (text : List ℕ) (n : ℕ) → IsTime text n → time_of text ≡ Some n
time_found text n h =
    let g = time_goal h.hour h.minute h.second (digits_length 2 h.hour h.hour_digits) (digits_length 2 h.minute h.minute_digits) (digits_length 2 h.second h.second_digits)
    h.hour_digits h.minute_digits h.second_digits h.there in
    ap time_of h.text_is ∙ g ∙ ap Some (sym h.milliseconds_are)

pub time_length : (text : List ℕ) (n : ℕ) → IsTime text n → length text ≡ 9
time_length text n h =
    ap length h.text_is
    ∙ omega (
      arith,
      length-append h.hour (58 ∷ (h.minute ++ 58 ∷ h.second)),
      length-append h.minute (58 ∷ h.second),
      digits_length 2 h.hour h.hour_digits,
      digits_length 2 h.minute h.minute_digits,
      digits_length 2 h.second h.second_digits,
    )

time_nine : (n a b c d e f g h i : ℕ) → has_time_form (a ∷ b ∷ c ∷ d ∷ e ∷ f ∷ g ∷ h ∷ i ∷ []) ≡ true
    → clock_of (number_of (b ∷ c ∷ [])) (number_of (e ∷ f ∷ [])) (number_of (h ∷ i ∷ [])) ≡ Some n → IsTime (a ∷ b ∷ c ∷ d ∷ e ∷ f ∷ g ∷ h ∷ i ∷ []) n
time_nine n a b c d e f g h i t s =
    let k = tested (is_clock (number_of (b ∷ c ∷ [])) (number_of (e ∷ f ∷ [])) (number_of (h ∷ i ∷ []))) (Some (clock_milliseconds (number_of (b ∷ c ∷ [])) (number_of (e ∷ f ∷ [])) (number_of (h ∷ i ∷ [])))) n s in
    let front = and_first _ _ (and_first _ _ (and_first _ _ t)) in
    let letter : a ≡ 84 = same_byte a 84 (and_first _ _ (and_first _ _ front)) in
    let first : d ≡ 58 = same_byte d 58 (and_second _ _ (and_first _ _ front)) in
    let second : g ≡ 58 = same_byte g 58 (and_second _ _ front) in
    record {
      hour = b ∷ c ∷ [];
      minute = e ∷ f ∷ [];
      second = h ∷ i ∷ [];
      text_is = rw (letter, first, second) refl;
      hour_digits = and_second _ _ (and_first _ _ (and_first _ _ t));
      minute_digits = and_second _ _ (and_first _ _ t);
      second_digits = and_second _ _ t;
      there = k.0;
      milliseconds_are = some_is _ n k.1;
    }

abbrev TimeIs : ℕ → List ℕ → Type 0
TimeIs n text = has_time_form text ≡ true → clock_of (number_of (take 2 (drop 1 text))) (number_of (take 2 (drop 4 text))) (number_of (take 2 (drop 7 text))) ≡ Some n → IsTime text n

time_form_length : (text : List ℕ) → has_time_form text ≡ true → length text ≡ 9
time_form_length text h = eqb-true (length text) 9 (and_first _ _ (and_first _ _ (and_first _ _ (and_first _ _ (and_first _ _ (and_first _ _ h))))))

pub time_is : (text : List ℕ) (n : ℕ) → time_of text ≡ Some n → IsTime text n
unfolding time_of
time_is text n h =
    let t = tested (has_time_form text) (clock_of (number_of (take 2 (drop 1 text))) (number_of (take 2 (drop 4 text))) (number_of (take 2 (drop 7 text)))) n h in
    with_nine (TimeIs n) (time_nine n) text (time_form_length text t.0) t.0 t.1
