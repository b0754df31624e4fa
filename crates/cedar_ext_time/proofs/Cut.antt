-- Texts of fixed lengths, and how they are cut.
use Rattle.std.proofs.Common.{◌≡◌, ℕ, ◌≤◌, ◌<◌, Bool, true, false, Option, Some, None, if◌then◌else◌, nat_lt, List, [], ◌∷◌, ◌++◌, length, take, drop, refl, sym, ap, ◌∙◌, arith, eqb-true}
use Rattle.std.specs.Bool.{◌==◌}
use Rattle.std.proofs.lemmas.Bool.Decides.{nat_tests}
use Rattle.std.proofs.Math.Seq.{take-append_seam, drop-append-add}
use Rattle.cedar_ext_time.specs.Digits.{are_digits}
use Rattle.cedar_ext_time.proofs.Runs.{and_first}

pub with_two : (P : List ℕ → Type 0) → ((a b : ℕ) → P (a ∷ b ∷ [])) → (xs : List ℕ) → length xs ≡ 2 → P xs
with_two P f (a ∷ b ∷ []) h = f a b
with_two P f _ h = absurd (omega arith)

pub with_four : (P : List ℕ → Type 0) → ((a b c d : ℕ) → P (a ∷ b ∷ c ∷ d ∷ [])) → (xs : List ℕ) → length xs ≡ 4 → P xs
with_four P f (a ∷ b ∷ c ∷ d ∷ []) h = f a b c d
with_four P f _ h = absurd (omega arith)

pub with_nine : (P : List ℕ → Type 0) → ((a b c d e f g h i : ℕ) → P (a ∷ b ∷ c ∷ d ∷ e ∷ f ∷ g ∷ h ∷ i ∷ [])) → (xs : List ℕ) → length xs ≡ 9 → P xs
with_nine P t (a ∷ b ∷ c ∷ d ∷ e ∷ f ∷ g ∷ h ∷ i ∷ []) k = t a b c d e f g h i
with_nine P t _ k = absurd (omega arith)

pub with_ten : (P : List ℕ → Type 0) → ((a b c d e f g h i j : ℕ) → P (a ∷ b ∷ c ∷ d ∷ e ∷ f ∷ g ∷ h ∷ i ∷ j ∷ [])) → (xs : List ℕ) → length xs ≡ 10 → P xs
with_ten P t (a ∷ b ∷ c ∷ d ∷ e ∷ f ∷ g ∷ h ∷ i ∷ j ∷ []) k = t a b c d e f g h i j
with_ten P t _ k = absurd (omega arith)

pub digits_length : (n : ℕ) (xs : List ℕ) → are_digits n xs ≡ true → length xs ≡ n
digits_length n xs h = eqb-true (length xs) n (and_first _ _ h)

pub same_byte : (b c : ℕ) → (b == c) ≡ true → b ≡ c
same_byte b c h = eqb-true b c h

pub tested : {A : Type 0} (b : Bool) (o : Option A) (x : A) → (if b then o else None) ≡ Some x → (b ≡ true) × (o ≡ Some x)
tested true o x h = (refl, h)
tested false o x h = cc

pub some_is : {A : Type 0} (x y : A) → Some x ≡ Some y → y ≡ x
some_is x y h = cc

drop_seam : (xs ys : List ℕ) → drop (length xs) (xs ++ ys) ≡ ys
drop_seam xs ys = ap (λ (n : ℕ). drop n (xs ++ ys)) (omega arith) ∙ drop-append-add xs ys 0

pub take_first : (xs ys : List ℕ) (n : ℕ) → length xs ≡ n → take n (xs ++ ys) ≡ xs
take_first xs ys n h = ap (λ (k : ℕ). take k (xs ++ ys)) (sym h) ∙ take-append_seam xs ys

pub drop_first : (xs ys : List ℕ) (n : ℕ) → length xs ≡ n → drop n (xs ++ ys) ≡ ys
drop_first xs ys n h = ap (λ (k : ℕ). drop k (xs ++ ys)) (sym h) ∙ drop_seam xs ys

pub not_less : (m n : ℕ) → n ≤ m → nat_lt m n ≡ false
not_less m n h = grind (arith, nat_tests)

pub less : (m n : ℕ) → m < n → nat_lt m n ≡ true
less m n h = grind (arith, nat_tests)
