-- Words in the plain form: whole numbers and truths.
use Rattle.std.proofs.Common.{◌≡◌, ℕ, suc, ◌+◌, ◌-◌, Bool, true, false, cond, not, ◌&&◌, ◌||◌, ◌==◌, nat_eq, List, [], ◌∷◌, ◌++◌, length, take, drop, Some, None, option_and_then, ⊎_elim, refl, sym, ap, ap₂, ◌∙◌, arith, length-append}
use Rattle.std.proofs.lemmas.Bool.{true≢false, false≢true, eqb-true, and_parts, or_cases}
use Rattle.std.proofs.lemmas.Grind.{common_steps}
use Rattle.std.proofs.lemmas.List.{take-append-le}
use Rattle.std.proofs.Math.Seq.{take-length}
use Rattle.std.specs.Char.{is_ascii_digit}
use Rattle.std.specs.List.{list_all, prefix_len}
use Rattle.json.specs.Ascii as ascii
use Rattle.json.specs.Token.{number, boolean, bad}
use Rattle.json.specs.Word.{is_operator, head, ends_word, after_digits, after_minus, after_sign, after_whole, after_fraction, after_exponent, after_number, number_before, word}
use Rattle.json.specs.Lex.{token, Class, quote, backslash, operator, space, other, class, between, in_word, lex_byte, lex}
use Rattle.base_json.proofs.Bytes.{space_class}
use Rattle.base_json.proofs.Digits.{digit_is_other}
use Rattle.base_json.specs.Private.Plain.{is_integer, is_whole}

-- ---- where a word ends

operator_class : (x : ℕ) → is_operator x ≡ true → class x ≡ operator
operator_class x h =
    ⊎_elim (λ e. ⊎_elim (λ d. ⊎_elim (λ c. ⊎_elim (λ b. ⊎_elim (is 123 refl) (is 125 refl) (or_cases _ _ b)) (is 91 refl) (or_cases _ _ c)) (is 93 refl) (or_cases _ _ d)) (is 58 refl) (or_cases _ _ e))
    (is 44 refl) (or_cases _ _ h)
  where
    is : (c : ℕ) → class c ≡ operator → (x == c) ≡ true → class x ≡ operator
    is c k e = ap class (eqb-true x c e) ∙ k

abbrev is_end : Class → Bool
is_end quote = false
is_end backslash = false
is_end operator = true
is_end space = true
is_end other = false

-- the first byte, if any, is no part of a word
end_class : (t : List ℕ) → ends_word t ≡ true → is_end (class (head t)) ≡ true
end_class t h = ⊎_elim (λ o. ap is_end (operator_class (head t) o)) (λ s. ap is_end (space_class (head t) s)) (or_cases _ _ h)

over : (c : Class) (x : ℕ) (xs : List ℕ) → is_end c ≡ true → lex_byte in_word c x xs (λ n. lex n xs) ≡ lex_byte between c x xs (λ n. lex n xs)
over quote x xs h = absurd (false≢true h)
over backslash x xs h = absurd (false≢true h)
over operator x xs h = refl
over space x xs h = refl
over other x xs h = absurd (false≢true h)

word_ends : (t : List ℕ) → ends_word t ≡ true → lex in_word t ≡ lex between t
unfolding lex
word_ends [] h = refl
word_ends (x ∷ xs) h = over (class x) x xs (end_class (x ∷ xs) h)

-- a byte of a word does not come first
not_first : (c : ℕ) (t : List ℕ) → class c ≡ other → ends_word t ≡ true → (head t == c) ≡ false
not_first c t k h = is_no (head t == c) refl
  where
    is_no : (b : Bool) → (head t == c) ≡ b → (head t == c) ≡ false
    is_no false e = e
    is_no true e =
        absurd (false≢true (sym (ap is_end (ap class (eqb-true (head t) c e) ∙ k)) ∙ end_class t h))

-- ---- digits

no_digit : (t : List ℕ) → ends_word t ≡ true → is_ascii_digit (head t) ≡ false
no_digit t h = is_no (is_ascii_digit (head t)) refl
  where
    is_no : (b : Bool) → is_ascii_digit (head t) ≡ b → is_ascii_digit (head t) ≡ false
    is_no false e = e
    is_no true e =
        absurd (false≢true (sym (ap is_end (digit_is_other (head t) e)) ∙ end_class t h))

no_run : (t : List ℕ) → is_ascii_digit (head t) ≡ false → prefix_len is_ascii_digit t ≡ 0
no_run [] h = refl
no_run (x ∷ xs) h = ap (λ b. cond b (1 + prefix_len is_ascii_digit xs) 0) h

run : (ds rest : List ℕ) → list_all is_ascii_digit ds ≡ true → ends_word rest ≡ true → prefix_len is_ascii_digit (ds ++ rest) ≡ length ds
run [] rest all h = no_run rest (no_digit rest h)
run (d ∷ ds) rest all h =
    let both = and_parts (is_ascii_digit d) (list_all is_ascii_digit ds) all in
    ap (λ b. cond b (1 + prefix_len is_ascii_digit (ds ++ rest)) 0) both.0 ∙ omega (arith, run ds rest both.1 h)

pub past_all : (xs ys : List ℕ) → drop (length xs) (xs ++ ys) ≡ ys
past_all [] ys = refl
past_all (x ∷ xs) ys = past_all xs ys

digits_over : (ds rest : List ℕ) → list_all is_ascii_digit ds ≡ true → lex in_word (ds ++ rest) ≡ lex in_word rest
unfolding lex
digits_over [] rest all = refl
digits_over (d ∷ ds) rest all =
    let both = and_parts (is_ascii_digit d) (list_all is_ascii_digit ds) all in
    ap (λ c. lex_byte in_word c d (ds ++ rest) (λ n. lex n (ds ++ rest))) (digit_is_other d both.0) ∙ digits_over ds rest both.1

-- ---- whole numbers

record Whole (d : ℕ) (ds : List ℕ) : Type 0 where
  first : is_ascii_digit d ≡ true
  others : list_all is_ascii_digit ds ≡ true
  zero_alone : (d == 48) ≡ true → length ds ≡ 0

whole_parts : (d : ℕ) (ds : List ℕ) → is_whole (d ∷ ds) ≡ true → Whole d ds
whole_parts d ds h =
    let a = and_parts _ _ h in
    let b = and_parts _ _ a.0 in
    record { first = b.0; others = b.1; zero_alone = λ e. alone (d == 48) e a.1 }
  where
    alone : (z : Bool) → z ≡ true → (not z || nat_eq (length ds) 0) ≡ true → length ds ≡ 0
    alone true e k = eqb-true (length ds) 0 k
    alone false e k = absurd (false≢true e)

no_others : (ds : List ℕ) → length ds ≡ 0 → ds ≡ []
no_others [] h = refl
no_others (d ∷ ds) h = let never : ⊥ = omega (arith, h) in absurd never

some_more : (n : ℕ) → (suc n == 0) ≡ false
some_more n = grind arith

past_whole : (w rest : List ℕ) → is_whole w ≡ true → ends_word rest ≡ true → after_whole (w ++ rest) ≡ Some rest
past_whole [] rest h k = absurd (false≢true h)
past_whole (d ∷ ds) rest h k = by_zero (d == 48) refl
  where
    by_zero : (z : Bool) → (d == 48) ≡ z → after_whole (d ∷ ds ++ rest) ≡ Some rest
    by_zero true e =
        let w = whole_parts d ds h in
        ap (λ b. cond b (Some (ds ++ rest)) (after_digits (d ∷ ds ++ rest))) e ∙ ap (λ (xs : List ℕ). Some (xs ++ rest)) (no_others ds (w.zero_alone e))
    by_zero false e =
        let w = whole_parts d ds h in
        let n : prefix_len is_ascii_digit (d ∷ ds ++ rest) ≡ suc (length ds) = run (d ∷ ds) rest h' k in
        ap (λ b. cond b (Some (ds ++ rest)) (after_digits (d ∷ ds ++ rest))) e
        ∙ ap (λ (n : ℕ). cond (n == 0) None (Some (drop n (d ∷ ds ++ rest)))) n
        ∙ ap (λ b. cond b None (Some (drop (length ds) (ds ++ rest)))) (some_more (length ds)) ∙ ap Some (past_all ds rest)
      where
        h' : list_all is_ascii_digit (d ∷ ds) ≡ true
        h' = let w = whole_parts d ds h in ap (λ b. b && list_all is_ascii_digit ds) w.first ∙ w.others

no_fraction : (rest : List ℕ) → ends_word rest ≡ true → option_and_then after_exponent (after_fraction rest) ≡ Some rest
no_fraction rest h =
    ap (λ b. option_and_then after_exponent (cond b (after_digits (drop 1 rest)) (Some rest))) (not_first 46 rest refl h)
    ∙ ap₂ (λ a b. cond (a || b) (after_digits (after_sign (drop 1 rest))) (Some rest)) (not_first 101 rest refl h) (not_first 69 rest refl h)

whole_number : (t w rest : List ℕ) → after_minus t ≡ w ++ rest → is_whole w ≡ true → ends_word rest ≡ true → after_number t ≡ Some rest
unfolding after_number
whole_number t w rest minus h k =
    ap (λ u. option_and_then after_exponent (option_and_then after_fraction (after_whole u))) minus
    ∙ ap (λ o. option_and_then after_exponent (option_and_then after_fraction o)) (past_whole w rest h k) ∙ no_fraction rest k

taken : (s rest : List ℕ) → take (length (s ++ rest) - length rest) (s ++ rest) ≡ s
taken s rest =
    let size : length (s ++ rest) - length rest ≡ length s = omega (arith, length-append s rest) in
    ap (λ n. take n (s ++ rest)) size ∙ take-append-le (length s) s rest (omega arith) ∙ take-length s

before : (s rest : List ℕ) → after_number (s ++ rest) ≡ Some rest → ends_word rest ≡ true → number_before (s ++ rest) (after_number (s ++ rest)) ≡ number s
before s rest e h = ap (number_before (s ++ rest)) e ∙ ap (λ b. cond b (number (take (length (s ++ rest) - length rest) (s ++ rest))) bad) h ∙ ap number (taken s rest)

-- the word begins with another byte than the literals
starts : (x : ℕ) (xs : List ℕ) → (x == 116) ≡ false → (x == 102) ≡ false → (x == 110) ≡ false → word (x ∷ xs) ≡ number_before (x ∷ xs) (after_number (x ∷ xs))
unfolding word
starts x xs t f n = rw t (rw f (rw n refl))

digit_apart : (x c : ℕ) → is_ascii_digit x ≡ true → is_ascii_digit c ≡ false → (x == c) ≡ false
digit_apart x c h k = is_no (x == c) refl
  where
    is_no : (b : Bool) → (x == c) ≡ b → (x == c) ≡ false
    is_no false e = e
    is_no true e = absurd (true≢false (sym h ∙ ap is_ascii_digit (eqb-true x c e) ∙ k))

-- the number with what follows it
written : (x : ℕ) (xs rest : List ℕ) → class x ≡ other → list_all is_ascii_digit xs ≡ true → word (x ∷ xs ++ rest) ≡ number (x ∷ xs) → ends_word rest ≡ true
    → lex between (x ∷ xs ++ rest) ≡ token (number (x ∷ xs)) ∷ lex between rest
unfolding lex
written x xs rest k all is h =
    ap (λ c. lex_byte between c x (xs ++ rest) (λ n. lex n (xs ++ rest))) k ∙ ap₂ (λ t ls. token t ∷ ls) is (digits_over xs rest all ∙ word_ends rest h)

whole_written : (d : ℕ) (ds rest : List ℕ) → is_whole (d ∷ ds) ≡ true → ends_word rest ≡ true → (d == 45) ≡ false → lex between (d ∷ ds ++ rest) ≡ token (number (d ∷ ds)) ∷ lex between rest
whole_written d ds rest h k minus =
    let w = whole_parts d ds h in
    let after : after_minus (d ∷ ds ++ rest) ≡ d ∷ ds ++ rest = ap (λ b. cond b (ds ++ rest) (d ∷ ds ++ rest)) minus in
    written d ds rest (digit_is_other d w.first) w.others
    (starts d (ds ++ rest) (digit_apart d 116 w.first refl) (digit_apart d 102 w.first refl) (digit_apart d 110 w.first refl)
    ∙ before (d ∷ ds) rest (whole_number (d ∷ ds ++ rest) (d ∷ ds) rest after h k) k) k

all_digits : (w : List ℕ) → is_whole w ≡ true → list_all is_ascii_digit w ≡ true
all_digits [] h = refl
all_digits (d ∷ ds) h = let w = whole_parts d ds h in ap (λ b. b && list_all is_ascii_digit ds) w.first ∙ w.others

minus_written : (w rest : List ℕ) → is_whole w ≡ true → ends_word rest ≡ true → lex between (45 ∷ w ++ rest) ≡ token (number (45 ∷ w)) ∷ lex between rest
minus_written w rest h k =
    written 45 w rest refl (all_digits w h) (starts 45 (w ++ rest) refl refl refl ∙ before (45 ∷ w) rest (whole_number (45 ∷ w ++ rest) w rest refl h k) k) k

pub integer_written : (s rest : List ℕ) → is_integer s ≡ true → ends_word rest ≡ true → lex between (s ++ rest) ≡ token (number s) ∷ lex between rest
integer_written [] rest h k = absurd (false≢true h)
integer_written (x ∷ xs) rest h k = by_sign (x == 45) refl
  where
    by_sign : (b : Bool) → (x == 45) ≡ b → lex between (x ∷ xs ++ rest) ≡ token (number (x ∷ xs)) ∷ lex between rest
    by_sign true e =
        let whole : is_whole xs ≡ true = sym (ap (λ b. is_whole (cond b xs (x ∷ xs))) e) ∙ h in
        let same : x ≡ 45 = eqb-true x 45 e in
        ap (λ (y : ℕ). lex between (y ∷ xs ++ rest)) same ∙ minus_written xs rest whole k ∙ ap (λ (y : ℕ). token (number (y ∷ xs)) ∷ lex between rest) (sym same)
    by_sign false e =
        let whole : is_whole (x ∷ xs) ≡ true = sym (ap (λ b. is_whole (cond b xs (x ∷ xs))) e) ∙ h in
        whole_written x xs rest whole k e

-- ---- truths

pub true_written : (rest : List ℕ) → ends_word rest ≡ true → lex between (ascii.true_text ++ rest) ≡ token (boolean true) ∷ lex between rest
unfolding lex word
true_written rest h = ap₂ (λ b ls. token (cond b (boolean true) bad) ∷ ls) h (word_ends rest h)

pub false_written : (rest : List ℕ) → ends_word rest ≡ true → lex between (ascii.false_text ++ rest) ≡ token (boolean false) ∷ lex between rest
unfolding lex word
false_written rest h = ap₂ (λ b ls. token (cond b (boolean false) bad) ∷ ls) h (word_ends rest h)

-- ---- places

drop_sum : (text : List ℕ) (at n : ℕ) → drop (at + n) text ≡ drop n (drop at text)
drop_sum text at n = grind (arith, common_steps)

pub word_past : (text : List ℕ) (at : ℕ) (xs rest : List ℕ) → drop at text ≡ xs ++ rest → drop (at + length xs) text ≡ rest
word_past text at xs rest e = drop_sum text at (length xs) ∙ ap (drop (length xs)) e ∙ past_all xs rest

pub string_past : (text : List ℕ) (at : ℕ) (plain rest : List ℕ) → drop at text ≡ 34 ∷ plain ++ 34 ∷ rest → drop (at + length plain + 2) text ≡ rest
string_past text at plain rest e =
    let n : at + length plain + 2 ≡ at + suc (length plain + 1) = omega arith in
    ap (λ m. drop m text) n ∙ drop_sum text at (suc (length plain + 1)) ∙ ap (drop (suc (length plain + 1))) e ∙ drop_sum (plain ++ 34 ∷ rest) (length plain) 1 ∙ ap (drop 1) (past_all plain (34 ∷ rest))
