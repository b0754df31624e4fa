-- The lexer takes a digit for a part of a word.
use Rattle.std.proofs.Common.{◌≡◌, ℕ, zero, suc, ◌<◌, Bool, true, false, not, ◌&&◌, ◌||◌, ◌⊎◌, inl, inr, refl, ap, ◌∙◌, arith}
use Rattle.std.proofs.lemmas.Bool.{false≢true, leb-true, and_parts, cases_order}
use Rattle.std.specs.Char.{is_ascii_digit}
use Rattle.json.specs.Lex.{Class, quote, backslash, operator, space, other, class}

abbrev is_other : Class → Bool
is_other quote = false
is_other backslash = false
is_other operator = false
is_other space = false
is_other other = true

other_is : (c : Class) → is_other c ≡ true → c ≡ other
other_is quote h = absurd (false≢true h)
other_is backslash h = absurd (false≢true h)
other_is operator h = absurd (false≢true h)
other_is space h = absurd (false≢true h)
other_is other h = refl

-- a fact of each number below n, by computation
abbrev all_to : (ℕ → Bool) → ℕ → Bool
all_to p zero = true
all_to p (suc n) = p n && all_to p n

last_or : (p : ℕ → Bool) (n i : ℕ) → p n ≡ true → (i < n → p i ≡ true) → i < suc n → (i ≡ n) ⊎ ((i < n) ⊎ (n < i)) → p i ≡ true
last_or p n i h f less (inl e) = ap p e ∙ h
last_or p n i h f less (inr (inl below)) = f below
last_or p n i h f less (inr (inr above)) = let never : ⊥ = omega arith in absurd never

each_to : (p : ℕ → Bool) (n : ℕ) → all_to p n ≡ true → (i : ℕ) → i < n → p i ≡ true
each_to p zero h i less = let never : ⊥ = omega arith in absurd never
each_to p (suc n) h i less = let both = and_parts (p n) (all_to p n) h in last_or p n i both.0 (each_to p n both.1 i) less (cases_order i n)

then_true : (a b : Bool) → (not a || b) ≡ true → a ≡ true → b ≡ true
then_true true b h e = h
then_true false b h e = absurd (false≢true e)

pub digit_is_other : (x : ℕ) → is_ascii_digit x ≡ true → class x ≡ other
digit_is_other x h =
    let small : x < 58 = omega (arith, leb-true x 57 (and_parts _ _ h).1) in
    other_is (class x) (then_true (is_ascii_digit x) _ (each_to (λ y. not (is_ascii_digit y) || is_other (class y)) 58 refl x small) h)
