-- Runs of digits and of other bytes at the beginning of a text.
use Rattle.std.proofs.Common.{◌≡◌, ℕ, ◌+◌, ◌≤◌, ◌&&◌, Bool, true, false, not, nat_lt, List, [], ◌∷◌, ◌++◌, length, take, cond, Option, Some, None, refl, sym, ap, ◌∙◌, arith, one-add}
use Rattle.std.specs.List.{list_all, prefix_len, position, position_or_len}
use Rattle.std.specs.Option.{unwrap_or}
use Rattle.std.specs.Char.{is_ascii_digit}
use Rattle.std.proofs.lemmas.Bool.Decides.{nat_tests}
use Rattle.std.proofs.lemmas.List.Sums.{prefix_len-le-length}
use Rattle.std.proofs.lemmas.List.Folds.{length-prefix_len}

pub and_first : (b c : Bool) → (b && c) ≡ true → b ≡ true
and_first true c h = refl
and_first false c h = cc

pub and_second : (b c : Bool) → (b && c) ≡ true → c ≡ true
and_second true c h = h
and_second false c h = cc

pub and_both : (b c : Bool) → b ≡ true → c ≡ true → (b && c) ≡ true
and_both true c h k = k
and_both false c h k = cc

-- the first element does not pass
abbrev pub Stops : (ℕ → Bool) → List ℕ → Type 0
Stops p [] = Unit {0}
Stops p (x ∷ xs) = p x ≡ false

prefix_stops : (p : ℕ → Bool) (xs : List ℕ) → Stops p xs → prefix_len p xs ≡ 0
prefix_stops p [] h = refl
prefix_stops p (x ∷ xs) h = rw h refl

prefix_more : (p : ℕ → Bool) (x : ℕ) (xs : List ℕ) → p x ≡ true → prefix_len p (x ∷ xs) ≡ 1 + prefix_len p xs
prefix_more p x xs h = rw h refl

-- a run that ends
pub prefix_run : (p : ℕ → Bool) (xs rest : List ℕ) → list_all p xs ≡ true → Stops p rest → prefix_len p (xs ++ rest) ≡ length xs
prefix_run p [] rest h s = prefix_stops p rest s
prefix_run p (x ∷ xs) rest h s = prefix_more p x (xs ++ rest) (and_first _ _ h) ∙ omega (arith, prefix_run p xs rest (and_second _ _ h) s)

all_front : (p : ℕ → Bool) (x : ℕ) (xs : List ℕ) (b : Bool) → p x ≡ b → list_all p (take (prefix_len p xs) xs) ≡ true → list_all p (take (cond b (1 + prefix_len p xs) 0) (x ∷ xs)) ≡ true
all_front p x xs true e h = rw (one-add (prefix_len p xs), e) h
all_front p x xs false e h = refl

prefix_all : (p : ℕ → Bool) (xs : List ℕ) → list_all p (take (prefix_len p xs) xs) ≡ true
prefix_all p [] = refl
prefix_all p (x ∷ xs) = all_front p x xs (p x) refl (prefix_all p xs)

-- not a byte that is not a digit
abbrev pub still_digit : ℕ → Bool
still_digit b = not (not (is_ascii_digit b))

twice : (b : Bool) → not (not b) ≡ b
twice true = refl
twice false = refl

pub all_still : (xs : List ℕ) → list_all still_digit xs ≡ list_all is_ascii_digit xs
all_still [] = refl
all_still (x ∷ xs) = ap (λ (b : Bool). b && list_all still_digit xs) (twice (is_ascii_digit x)) ∙ ap (λ (b : Bool). is_ascii_digit x && b) (all_still xs)

-- the digits at the beginning
pub front_digits : (text : List ℕ) → list_all is_ascii_digit (take (prefix_len still_digit text) text) ≡ true
front_digits text = sym (all_still (take (prefix_len still_digit text) text)) ∙ prefix_all still_digit text

pub front_len : (text : List ℕ) → length (take (prefix_len still_digit text) text) ≡ prefix_len still_digit text
front_len text = length-prefix_len still_digit text

not_below : (m n : ℕ) → m ≤ n → nat_lt m n ≡ false → m ≡ n
not_below m n h k = grind (arith, nat_tests)

by_test : (m n : ℕ) (b : Bool) → m ≤ n → nat_lt m n ≡ b → unwrap_or (cond b (Some m) None) n ≡ m
by_test m n true h e = refl
by_test m n false h e = sym (not_below m n h e)

-- the place of the first element that passes, or the length
pub place_or_len : (p : ℕ → Bool) (xs : List ℕ) (o : Option ℕ) → o ≡ position p xs → unwrap_or o (length xs) ≡ position_or_len p xs
place_or_len p xs o e = ap (λ (x : Option ℕ). unwrap_or x (length xs)) e ∙ by_test (position_or_len p xs) (length xs) (nat_lt (position_or_len p xs) (length xs)) (prefix_len-le-length (λ (x : ℕ). not (p x)) xs) refl
