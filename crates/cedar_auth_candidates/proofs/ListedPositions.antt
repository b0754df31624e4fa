-- Positions, one more at a time, and those of which a test holds.
use Rattle.std.proofs.Common.{◌≡◌, ℕ, zero, suc, ◌+◌, ◌<◌, ◌≤◌, ◌%◌, ◌⊎◌, inl, inr, ⊎_elim, Bool, true, false, ◌||◌, cond, nat_eq, get_or, List, [], ◌∷◌, ◌++◌, filter, length, take, Contains, arith, refl, sym, ap, subst, ◌∙◌, eq-eqb, eqb-true}
use Rattle.std.proofs.lemmas.List.{take_all, take_more}
use Rattle.std.proofs.lemmas.List.Elements.{Contains-append_left, Contains-append_right, Contains-append_cases, Contains-push, Contains-push_cases}
use Rattle.std.proofs.lemmas.Nat.Bits.{bit_at-zero}
use Rattle.base_bits.specs.Bits.{has_bit}
use Rattle.cedar_auth_candidates.specs.Private.Kept.{HasBits, HasBitsAlone, Holds, LacksBits}

here : (x : ℕ) (xs : List ℕ) → Contains (x ∷ xs) x
here x xs = (zero, omega arith, refl)

there : (x : ℕ) (xs : List ℕ) (y : ℕ) → Contains xs y → Contains (x ∷ xs) y
there x xs y (k, low, e) = (suc k, omega arith, e)

cases : (x : ℕ) (xs : List ℕ) (y : ℕ) → Contains (x ∷ xs) y → (x ≡ y) ⊎ Contains xs y
cases x xs y (zero, low, e) = inl e
cases x xs y (suc k, low, e) = inr (k, omega arith, e)

-- what holds of the first positions holds of one more
first_more : (Q : ℕ → Type 0) (xs : List ℕ) (i : ℕ) → i < length xs → ((k : ℕ) → Contains (take i xs) k → Q k) → Q (get_or xs i 0) → (k : ℕ) → Contains (take (i + 1) xs) k → Q k
first_more Q xs i low before this k m = ⊎_elim (before k)
    (λ (e : get_or xs i 0 ≡ k). subst Q e this)
    (Contains-push_cases (take i xs) (get_or xs i 0) k (subst (λ (ys : List ℕ). Contains ys k) (take_more xs i 0 low) m))

or_true : (b : Bool) → (b || true) ≡ true
or_true true = refl
or_true false = refl

-- no position has its bit in an empty row
pub bits_none : HasBits [] []
bits_none k (i, low, e) = absurd (omega arith)

-- the bit of one position more
pub bits_more : (old new xs : List ℕ) (i : ℕ) → i < length xs → ((m : ℕ) → has_bit new m ≡ (has_bit old m || nat_eq (get_or xs i 0) m)) → HasBits old (take i xs) → HasBits new (take (i + 1) xs)
bits_more old new xs i low is before =
    let n = get_or xs i 0 in
    first_more (λ k. has_bit new k ≡ true) xs i low (λ k m. is k ∙ ap (λ b. b || nat_eq n k) (before k m)) (is n ∙ ap (λ b. has_bit old n || b) (eq-eqb n n refl) ∙ or_true (has_bit old n))

pub bits_all : (row xs : List ℕ) (i : ℕ) → length xs ≤ i → HasBits row (take i xs) → HasBits row xs
bits_all row xs i past by = subst (λ (ys : List ℕ). HasBits row ys) (take_all i xs past) by

either_true : (a b : Bool) → (a || b) ≡ true → (a ≡ true) ⊎ (b ≡ true)
either_true true b e = inl refl
either_true false b e = inr e

-- the first positions are among one more, and so is the one that is added
first_among : (xs : List ℕ) (i k : ℕ) → i < length xs → Contains (take i xs) k → Contains (take (i + 1) xs) k
first_among xs i k low m =
    subst (λ (ys : List ℕ). Contains ys k) (sym (take_more xs i 0 low)) (Contains-append_left (take i xs) (get_or xs i 0 ∷ []) k m)

one_among : (xs : List ℕ) (i k : ℕ) → i < length xs → get_or xs i 0 ≡ k → Contains (take (i + 1) xs) k
one_among xs i k low e =
    subst (λ (ys : List ℕ). Contains ys k) (sym (take_more xs i 0 low))
    (subst (λ (n : ℕ). Contains (take i xs ++ get_or xs i 0 ∷ []) n) e (Contains-push (take i xs) (get_or xs i 0)))

-- no bit of an empty row is set
pub alone_none : (xs : List ℕ) → HasBitsAlone [] xs
alone_none xs k h =
    let unset : has_bit [] k ≡ false = ap (λ (b : ℕ). nat_eq b 1) (bit_at-zero (k % 64)) in
    let no : true ≡ false = sym h ∙ unset in
    absurd (cc no)

-- no other bit than that of one position more
pub alone_more : (old new xs : List ℕ) (i : ℕ) → i < length xs → ((m : ℕ) → has_bit new m ≡ (has_bit old m || nat_eq (get_or xs i 0) m)) → HasBitsAlone old (take i xs) → HasBitsAlone new (take (i + 1) xs)
alone_more old new xs i low is before k h =
    let n = get_or xs i 0 in
    ⊎_elim (λ g. first_among xs i k low (before k g)) (λ e. one_among xs i k low (eqb-true n k e)) (either_true (has_bit old k) (nat_eq n k) (sym (is k) ∙ h))

pub alone_all : (row xs : List ℕ) (i : ℕ) → length xs ≤ i → HasBitsAlone row (take i xs) → HasBitsAlone row xs
alone_all row xs i past by = subst (λ (ys : List ℕ). HasBitsAlone row ys) (take_all i xs past) by

-- what is found is among the positions
pub among_none : (xs : List ℕ) → Holds [] xs
among_none xs k (i, low, e) = absurd (omega arith)

pub among_more : (xs old new : List ℕ) (i : ℕ) → i < length xs → new ≡ old ++ get_or xs i 0 ∷ [] → Holds old (take i xs) → Holds new (take (i + 1) xs)
among_more xs old new i low is before k m = ⊎_elim
    (λ g. first_among xs i k low (before k g))
    (λ e. one_among xs i k low e)
    (Contains-push_cases old (get_or xs i 0) k (subst (λ (ys : List ℕ). Contains ys k) is m))

pub among_same : (xs old : List ℕ) (i : ℕ) → i < length xs → Holds old (take i xs) → Holds old (take (i + 1) xs)
among_same xs old i low before k m = first_among xs i k low (before k m)

pub among_all : (xs found : List ℕ) (i : ℕ) → length xs ≤ i → Holds found (take i xs) → Holds found xs
among_all xs found i past by = subst (λ (ys : List ℕ). Holds found ys) (take_all i xs past) by

-- of these positions, those whose bits are set are among the ones that were found
abbrev pub AreFound : List ℕ → List ℕ → List ℕ → Type 0
AreFound row xs found = (k : ℕ) → Contains xs k → has_bit row k ≡ true → Contains found k

pub found_more : (row xs old new : List ℕ) (i : ℕ) → i < length xs → new ≡ old ++ get_or xs i 0 ∷ [] → AreFound row (take i xs) old → AreFound row (take (i + 1) xs) new
found_more row xs old new i low is before =
    let n = get_or xs i 0 in
    first_more (λ k. has_bit row k ≡ true → Contains new k) xs i low
    (λ k m h. subst (λ (ys : List ℕ). Contains ys k) (sym is) (Contains-append_left old (n ∷ []) k (before k m h)))
    (λ h. subst (λ (ys : List ℕ). Contains ys n) (sym is) (Contains-append_right old (n ∷ []) n (here n [])))

pub found_same : (row xs old : List ℕ) (i : ℕ) → i < length xs → has_bit row (get_or xs i 0) ≡ false → AreFound row (take i xs) old → AreFound row (take (i + 1) xs) old
found_same row xs old i low unset before =
    first_more (λ k. has_bit row k ≡ true → Contains old k) xs i low before (λ h. let no : true ≡ false = sym h ∙ unset in absurd (cc no))

pub found_all : (row xs found : List ℕ) (i : ℕ) → length xs ≤ i → AreFound row (take i xs) found → AreFound row xs found
found_all row xs found i past by = subst (λ (ys : List ℕ). AreFound row ys found) (take_all i xs past) by

-- ---- filters

kept_first : (b : Bool) (x : ℕ) (ys : List ℕ) → b ≡ true → Contains (cond b (x ∷ ys) ys) x
kept_first true x ys e = here x ys
kept_first false x ys e = absurd (cc e)

kept_rest : (b : Bool) (x : ℕ) (ys : List ℕ) (y : ℕ) → Contains ys y → Contains (cond b (x ∷ ys) ys) y
kept_rest true x ys y m = there x ys y m
kept_rest false x ys y m = m

filtered : (f : ℕ → Bool) (xs : List ℕ) (y : ℕ) → Contains xs y → f y ≡ true → Contains (filter f xs) y
filtered f [] y (i, low, d) e = absurd (omega arith)
filtered f (x ∷ xs) y m e = ⊎_elim
    (λ d. subst (λ z. Contains (cond (f x) (x ∷ filter f xs) (filter f xs)) z) d (kept_first (f x) x (filter f xs) (ap f d ∙ e)))
    (λ r. kept_rest (f x) x (filter f xs) y (filtered f xs y r e)) (cases x xs y m)

from_first : (b : Bool) (x : ℕ) (ys : List ℕ) (y : ℕ) → Contains (cond b (x ∷ ys) ys) y → ((b ≡ true) × (x ≡ y)) ⊎ Contains ys y
from_first true x ys y m = ⊎_elim (λ e. inl (refl, e)) (λ r. inr r) (cases x ys y m)
from_first false x ys y m = inr m

-- a filter keeps only what passes it
passes : (f : ℕ → Bool) (xs : List ℕ) (y : ℕ) → Contains (filter f xs) y → f y ≡ true
passes f [] y (i, low, e) = absurd (omega arith)
passes f (x ∷ xs) y m = ⊎_elim (λ p. subst (λ z. f z ≡ true) p.1 p.0) (λ r. passes f xs y r) (from_first (f x) x (filter f xs) y m)

-- what is kept by the row, and what is added, is among the positions
pub listed_alone : (row found added kept all last ks : List ℕ) → kept ≡ filter (has_bit row) found → all ≡ kept ++ added → HasBitsAlone row ks → Holds added ks → Holds last all → Holds last ks
listed_alone row found added kept all last ks is grown alone among sorted k m = ⊎_elim
    (λ g. alone k (passes (has_bit row) found k (subst (λ (ys : List ℕ). Contains ys k) is g)))
    (λ g. among k g)
    (Contains-append_cases kept added k (subst (λ (ys : List ℕ). Contains ys k) grown (sorted k m)))

-- what a row has a bit for stays, and what is added is there
pub stays : (row found added kept all : List ℕ) → kept ≡ filter (has_bit row) found → all ≡ kept ++ added → (k : ℕ) → Contains found k → has_bit row k ≡ true → Contains all k
stays row found added kept all is grown k m h =
    subst (λ (ys : List ℕ). Contains ys k) (sym grown)
    (Contains-append_left kept added k (subst (λ (ys : List ℕ). Contains ys k) (sym is) (filtered (has_bit row) found k m h)))

pub is_added : (kept added all : List ℕ) → all ≡ kept ++ added → Holds added all
is_added kept added all grown k m = subst (λ (ys : List ℕ). Contains ys k) (sym grown) (Contains-append_right kept added k m)

-- ---- bits that are not set

pub lacks_next : (row xs : List ℕ) (i : ℕ) → i < length xs → has_bit row (get_or xs i 0) ≡ false → LacksBits row (take i xs) → LacksBits row (take (i + 1) xs)
lacks_next row xs i low unset before = first_more (λ k. has_bit row k ≡ false) xs i low before unset

pub lacks_end : (row xs : List ℕ) (i : ℕ) → length xs ≤ i → LacksBits row (take i xs) → LacksBits row xs
lacks_end row xs i past by = subst (λ (ys : List ℕ). LacksBits row ys) (take_all i xs past) by
