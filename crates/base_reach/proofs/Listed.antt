-- What is in a list, and what tests tell.
use Rattle.std.proofs.Common.{◌≡◌, zero, suc, Bool, true, false, cond, ◌&&◌, ◌||◌, ◌⊎◌, inl, inr, ⊎_elim, List, [], ◌∷◌, ◌++◌, map, filter, Contains, Option, Some, None, arith, refl, ap, subst, ◌∙◌}
use Rattle.std.specs.Bool.{Decides}
use Rattle.std.specs.List.{list_any, filter_map, cons_option}
use Rattle.std.proofs.lemmas.List.Folds.{Any-from_list_any, list_any_at}

-- ---- lists

pub here : {A : Type 0} (x : A) (xs : List A) → Contains (x ∷ xs) x
here x xs = (zero, omega arith, refl)

pub there : {A : Type 0} (x : A) (xs : List A) (y : A) → Contains xs y → Contains (x ∷ xs) y
there x xs y (k, lt, e) = (suc k, omega arith, e)

pub first_or_later : {A : Type 0} (x : A) (xs : List A) (y : A) → Contains (x ∷ xs) y → (x ≡ y) ⊎ Contains xs y
first_or_later x xs y (zero, lt, e) = inl e
first_or_later x xs y (suc k, lt, e) = inr (k, omega arith, e)

pub nowhere : {A : Type 0} (y : A) → Contains [] y → ⊥
nowhere y (k, lt, e) = absurd (omega arith)

pub left_of : {A : Type 0} (xs ys : List A) (y : A) → Contains xs y → Contains (xs ++ ys) y
left_of [] ys y m = absurd (nowhere y m)
left_of (x ∷ xs) ys y m = ⊎_elim (λ e. subst (λ z. Contains (x ∷ (xs ++ ys)) z) e (here x (xs ++ ys))) (λ r. there x (xs ++ ys) y (left_of xs ys y r)) (first_or_later x xs y m)

pub right_of : {A : Type 0} (xs ys : List A) (y : A) → Contains ys y → Contains (xs ++ ys) y
right_of [] ys y m = m
right_of (x ∷ xs) ys y m = there x (xs ++ ys) y (right_of xs ys y m)

pub mapped : {A B : Type 0} (f : A → B) (xs : List A) (x : A) → Contains xs x → Contains (map f xs) (f x)
mapped f [] x m = absurd (nowhere x m)
mapped f (y ∷ ys) x m = ⊎_elim (λ e. subst (λ z. Contains (f y ∷ map f ys) (f z)) e (here (f y) (map f ys))) (λ r. there (f y) (map f ys) (f x) (mapped f ys x r)) (first_or_later y ys x m)

pub from_mapped : {A B : Type 0} (f : A → B) (xs : List A) (y : B) → Contains (map f xs) y → (x : A) × Contains xs x × (f x ≡ y)
from_mapped f [] y m = absurd (nowhere y m)
from_mapped f (x ∷ xs) y m = ⊎_elim (λ e. (x, here x xs, e)) (λ r. let p = from_mapped f xs y r in (p.0, there x xs p.0 p.1, p.2)) (first_or_later (f x) (map f xs) y m)

-- ---- tests

pub both_true : (a b : Bool) → (a && b) ≡ true → (a ≡ true) × (b ≡ true)
both_true true b e = (refl, e)
both_true false b e = cc

pub either_true : (a b : Bool) → (a || b) ≡ true → (a ≡ true) ⊎ (b ≡ true)
either_true true b e = inl refl
either_true false b e = inr e

pub or_left : (a b : Bool) → a ≡ true → (a || b) ≡ true
or_left true b e = refl
or_left false b e = cc

pub or_true : (a : Bool) → (a || true) ≡ true
or_true true = refl
or_true false = refl

pub or_right : (a b : Bool) → b ≡ true → (a || b) ≡ true
or_right true b e = refl
or_right false b e = e

pub is_false : (b : Bool) → (b ≡ true → ⊥) → b ≡ false
is_false true f = absurd (f refl)
is_false false f = refl

pub both_decide : (a b : Bool) (P Q : Type 0) → Decides a P → Decides b Q → Decides (a && b) (P × Q)
both_decide true b P Q p q = (λ e. (p.0 refl, q.0 e), λ h. q.1 h.1)
both_decide false b P Q p q = (λ e. absurd (cc), λ h. p.1 h.0)

pub either_decides : (a b : Bool) (P Q : Type 0) → Decides a P → Decides b Q → Decides (a || b) (P ⊎ Q)
either_decides a b P Q p q = (
  λ e. ⊎_elim (λ x. inl (p.0 x)) (λ y. inr (q.0 y)) (either_true a b e),
  λ h. ⊎_elim (λ x. or_left a b (p.1 x)) (λ y. or_right a b (q.1 y)) h,
)

-- another statement, which says the same
pub decides_as : (b : Bool) (P Q : Type 0) → Decides b P → (P → Q) → (Q → P) → Decides b Q
decides_as b P Q d f g = (λ e. f (d.0 e), λ h. d.1 (g h))

-- an element of the list that passes a test
pub any_found : {A : Type 0} (test : A → Bool) (us : List A) → list_any test us ≡ true → (p : A) × Contains us p × (test p ≡ true)
any_found test us h = let some = Any-from_list_any test us h in (some.1, (some.0, some.2, some.3), some.4)

pub any_at : {A : Type 0} (test : A → Bool) (us : List A) (p : A) → Contains us p → test p ≡ true → list_any test us ≡ true
any_at test us p (k, within, is) h = list_any_at test us k p within (ap test is ∙ h)

pub any_decides : {A : Type 0} (f : A → Bool) (P : A → Type 0) (xs : List A) → ((x : A) → Decides (f x) (P x)) → Decides (list_any f xs) ((x : A) × Contains xs x × P x)
any_decides f P xs d = (
  λ e. let p = any_found f xs e in (p.0, p.1, (d p.0).0 p.2),
  λ h. any_at f xs h.0 h.1 ((d h.0).1 h.2),
)

-- ---- filters

kept_case : {A : Type 0} (x : A) (xs : List A) (y : A) (b : Bool) → Contains xs y ⊎ ((x ≡ y) × (b ≡ true)) → Contains (cond b (x ∷ xs) xs) y
kept_case x xs y true (inl m) = there x xs y m
kept_case x xs y true (inr e) = subst (Contains (x ∷ xs)) e.0 (here x xs)
kept_case x xs y false (inl m) = m
kept_case x xs y false (inr e) = cc

pub filter-kept : {A : Type 0} (test : A → Bool) (xs : List A) (y : A) → Contains xs y → test y ≡ true → Contains (filter test xs) y
filter-kept test [] y m h = m
filter-kept test (x ∷ xs) y m h =
    kept_case x (filter test xs) y (test x) (⊎_elim (λ e. inr (e, ap test e ∙ h)) (λ r. inl (filter-kept test xs y r h)) (first_or_later x xs y m))

kept_cases : {A : Type 0} (b : Bool) (x : A) (ys : List A) (y : A) → Contains (cond b (x ∷ ys) ys) y → ((b ≡ true) × (x ≡ y)) ⊎ Contains ys y
kept_cases true x ys y m = ⊎_elim (λ e. inl (refl, e)) (λ r. inr r) (first_or_later x ys y m)
kept_cases false x ys y m = inr m

pub from_filtered : {A : Type 0} (f : A → Bool) (xs : List A) (y : A) → Contains (filter f xs) y → Contains xs y × (f y ≡ true)
from_filtered f [] y m = absurd (nowhere y m)
from_filtered f (x ∷ xs) y m = ⊎_elim (λ e. (subst (λ z. Contains (x ∷ xs) z) e.1 (here x xs), subst (λ z. f z ≡ true) e.1 e.0)) (λ r. let p = from_filtered f xs y r in (there x xs y p.0, p.1)) (kept_cases (f x) x (filter f xs) y m)

-- ---- what is given of each element

given_first : {B : Type 0} (o : Option B) (ys : List B) (y : B) → o ≡ Some y → Contains (cons_option o ys) y
given_first None ys y e = cc
given_first (Some x) ys y e = let d : x ≡ y = cc in subst (λ z. Contains (x ∷ ys) z) d (here x ys)

given_rest : {B : Type 0} (o : Option B) (ys : List B) (y : B) → Contains ys y → Contains (cons_option o ys) y
given_rest None ys y m = m
given_rest (Some x) ys y m = there x ys y m

given_cases : {B : Type 0} (o : Option B) (ys : List B) (y : B) → Contains (cons_option o ys) y → (o ≡ Some y) ⊎ Contains ys y
given_cases None ys y m = inr m
given_cases (Some x) ys y m = ⊎_elim (λ e. inl (ap (λ z. Some z) e)) (λ r. inr r) (first_or_later x ys y m)

pub given : {A B : Type 0} (h : A → Option B) (xs : List A) (x : A) (y : B) → Contains xs x → h x ≡ Some y → Contains (filter_map h xs) y
given h [] x y m e = absurd (nowhere x m)
given h (z ∷ zs) x y m e = ⊎_elim (λ d. given_first (h z) (filter_map h zs) y (ap h d ∙ e)) (λ r. given_rest (h z) (filter_map h zs) y (given h zs x y r e)) (first_or_later z zs x m)

pub from_given : {A B : Type 0} (h : A → Option B) (xs : List A) (y : B) → Contains (filter_map h xs) y → (x : A) × Contains xs x × (h x ≡ Some y)
from_given h [] y m = absurd (nowhere y m)
from_given h (x ∷ xs) y m = ⊎_elim (λ e. (x, here x xs, e)) (λ r. let p = from_given h xs y r in (p.0, there x xs p.0 p.1, p.2)) (given_cases (h x) (filter_map h xs) y m)
