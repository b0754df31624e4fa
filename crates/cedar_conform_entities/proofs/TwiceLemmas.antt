-- What is repeated in a list.
use Rattle.std.proofs.Common.{◌≡◌, ℕ, zero, suc, ◌<◌, true, false, ◌⊎◌, inl, inr, ⊎_elim, List, [], ◌∷◌, ◌++◌, Contains, Some, ap, subst, arith}
use Rattle.std.specs.Bool.{Decides}
use Rattle.std.specs.List.{AllByRecursion, IsDistinct, slice_get}
use Rattle.std.specs.List.Sorted.{IsStrictlySortedBy}
use Rattle.std.specs.Ordering.{eq_by_cmp, is_eq}
use Rattle.std.proofs.lemmas.Map.Keys.{IsDistinct-from_sorted, IsDistinct-head, IsDistinct-tail}
use Rattle.std.proofs.lemmas.Option.{same_Some}
use Rattle.base_reach.proofs.Listed.{here, there, first_or_later, nowhere}
use Rattle.cedar_conform_entities.specs.Private.Progress.{Twice}
use Rattle.cedar_value.specs.Order.{uid_cmp}
use Rattle.cedar_value.specs.Private.Equality.{same_uid-Decides}
use Rattle.cedar_value.specs.Private.Laws.{uid_ties}
use Rattle.cedar_value.specs.declared.uid.Uid.{Uid}

pub either_of : {A : Type 0} (xs ys : List A) (y : A) → Contains (xs ++ ys) y → Contains xs y ⊎ Contains ys y
either_of [] ys y m = inr m
either_of (x ∷ xs) ys y m = ⊎_elim (λ e. inl (subst (Contains (x ∷ xs)) e (here x xs))) (λ r. ⊎_elim (λ l. inl (there x xs y l)) (λ q. inr q) (either_of xs ys y r)) (first_or_later x (xs ++ ys) y m)

pub left_of : {A : Type 0} (xs ys : List A) (y : A) → Contains xs y → Contains (xs ++ ys) y
left_of [] ys y m = absurd (nowhere y m)
left_of (x ∷ xs) ys y m = ⊎_elim (λ e. subst (λ z. Contains (x ∷ (xs ++ ys)) z) e (here x (xs ++ ys))) (λ r. there x (xs ++ ys) y (left_of xs ys y r)) (first_or_later x xs y m)

pub right_of : {A : Type 0} (xs ys : List A) (y : A) → Contains ys y → Contains (xs ++ ys) y
right_of [] ys y m = m
right_of (x ∷ xs) ys y m = there x (xs ++ ys) y (right_of xs ys y m)

pub only : {A : Type 0} (x y : A) → Contains (x ∷ []) y → x ≡ y
only x y m = ⊎_elim (λ e. e) (λ r. absurd (nowhere y r)) (first_or_later x [] y m)

-- ---- two places

pub twice_behind : (xs ys : List Uid) (u : Uid) → Twice ys u → Twice (xs ++ ys) u
twice_behind [] ys u t = t
twice_behind (x ∷ xs) ys u t = inr (twice_behind xs ys u t)

pub twice_split : (xs ys : List Uid) (u : Uid) → Twice (xs ++ ys) u → Twice xs u ⊎ ((Contains xs u × Contains ys u) ⊎ Twice ys u)
twice_split [] ys u t = inr (inr t)
twice_split (x ∷ xs) ys u (inl (e, m)) = ⊎_elim (λ l. inl (inl (e, l))) (λ r. inr (inl (subst (Contains (x ∷ xs)) e (here x xs), r))) (either_of xs ys u m)
twice_split (x ∷ xs) ys u (inr t) = ⊎_elim (λ l. inl (inr l)) (λ r. ⊎_elim (λ b. inr (inl (there x xs u b.0, b.1))) (λ q. inr (inr q)) r) (twice_split xs ys u t)

place_of : (xs : List Uid) (u : Uid) → Contains xs u → (k : ℕ) × (slice_get xs k ≡ Some u)
place_of [] u m = absurd (nowhere u m)
place_of (x ∷ xs) u m = ⊎_elim (λ e. (0, ap Some e)) (λ r. let p = place_of xs u r in (suc p.0, p.1)) (first_or_later x xs u m)

contains_at : (xs : List Uid) (k : ℕ) (u : Uid) → slice_get xs k ≡ Some u → Contains xs u
contains_at [] k u h = cc
contains_at (x ∷ xs) zero u h = subst (Contains (x ∷ xs)) (same_Some x u h) (here x xs)
contains_at (x ∷ xs) (suc k) u h = there x xs u (contains_at xs k u h)

pub twice_places : (xs : List Uid) (u : Uid) → Twice xs u → (i : ℕ) × (j : ℕ) × (i < j) × (slice_get xs i ≡ Some u) × (slice_get xs j ≡ Some u)
twice_places [] u t = absurd t
twice_places (x ∷ xs) u (inl (e, m)) = let p = place_of xs u m in (0, suc p.0, omega arith, ap Some e, p.1)
twice_places (x ∷ xs) u (inr t) = let p = twice_places xs u t in let less = p.2 in (suc p.0, suc p.1, omega arith, p.3, p.4)

pub places_twice : (xs : List Uid) (u : Uid) (i j : ℕ) → i < j → slice_get xs i ≡ Some u → slice_get xs j ≡ Some u → Twice xs u
places_twice [] u i j less a b = cc
places_twice (x ∷ xs) u zero zero less a b = absurd (omega arith)
places_twice (x ∷ xs) u zero (suc j) less a b = inl (same_Some x u a, contains_at xs j u b)
places_twice (x ∷ xs) u (suc i) zero less a b = absurd (omega arith)
places_twice (x ∷ xs) u (suc i) (suc j) less a b = inr (places_twice xs u i j (omega arith) a b)

-- ---- none, in a list that ascends

pub uid_tie : (u v : Uid) → Decides (is_eq (uid_cmp u v)) (u ≡ v)
uid_tie u v = subst (λ b. Decides b (u ≡ v)) (uid_ties u v) (same_uid-Decides u v)

all_in : {A : Type 0} (P : A → Type 0) (xs : List A) → AllByRecursion P xs → (x : A) → Contains xs x → P x
all_in P [] h x m = absurd (nowhere x m)
all_in P (y ∷ ys) h x m = ⊎_elim (λ e. subst P e h.0) (λ r. all_in P ys h.1 x r) (first_or_later y ys x m)

none_twice : (us : List Uid) → IsDistinct (eq_by_cmp uid_cmp) us → (u : Uid) → Twice us u → ⊥
none_twice [] h u t = t
none_twice (x ∷ xs) h u (inl (e, m)) =
    let other : eq_by_cmp uid_cmp x u ≡ false = all_in (λ y. eq_by_cmp uid_cmp x y ≡ false) xs (IsDistinct-head (eq_by_cmp uid_cmp) x xs h) u m in
    let same : eq_by_cmp uid_cmp x u ≡ true = (uid_tie x u).1 e in cc
none_twice (x ∷ xs) h u (inr t) = none_twice xs (IsDistinct-tail (eq_by_cmp uid_cmp) x xs h) u t

pub none_twice_sorted : (us : List Uid) → IsStrictlySortedBy uid_cmp us → (u : Uid) → Twice us u → ⊥
none_twice_sorted us up = none_twice us (IsDistinct-from_sorted uid_cmp us up)
