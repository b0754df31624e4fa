-- Ascending lists: there is one with given members, and inserting one by one makes it.
use Rattle.std.proofs.Common.{◌≡◌, ◌↔◌, Bool, true, false, ◌||◌, List, [], ◌∷◌, Contains, refl, sym, ◌∙◌, ap}
use Rattle.std.proofs.lemmas.Cmp.{tied_itself, eq_by_cmp_equiv}
use Rattle.std.proofs.lemmas.Map.Views.{Contains-from_any, list_any-from_Contains}
use Rattle.std.specs.Bool.{Decides, one_answer}
use Rattle.std.specs.Cmp.{IsTotalOrder}
use Rattle.std.specs.declared.cmp.Ordering.{Ordering}
use Rattle.std.specs.declared.cmp.Ordering.TheVariants.{Less, Equal, Greater}
use Rattle.std.specs.Ordering.{ordering_reverse, match_ordering, eq_by_cmp, is_eq}
use Rattle.std.specs.List.{AllByRecursion, list_any}
use Rattle.std.specs.List.Sorted.{IsStrictlySortedBy}
use Rattle.cedar_value.specs.Ascending.{insert_in, ascending_from}

pub or_swap : (a b c : Bool) → (a || (b || c)) ≡ (b || (a || c))
or_swap true true c = refl
or_swap true false c = refl
or_swap false b c = refl

pub or_twice : (a c : Bool) → (a || c) ≡ (a || (a || c))
or_twice true c = refl
or_twice false c = refl

or_same : (a b c : Bool) → a ≡ false → (a || b) ≡ (a || c) → b ≡ c
or_same true b c n h = cc
or_same false b c n h = h

equal_from : (o : Ordering) → is_eq o ≡ true → o ≡ Equal
equal_from Less h = cc
equal_from Equal h = refl
equal_from Greater h = cc

module _ {A : Type 0} {R : A → A → Ordering} (o : IsTotalOrder R) where
  pub less_all : (a b : A) (xs : List A) → R a b ≡ Less → AllByRecursion (λ x. R b x ≡ Less) xs → AllByRecursion (λ x. R a x ≡ Less) xs
  less_all a b [] h all = tt
  less_all a b (x ∷ xs) h all = (o.trans a b x h all.0, less_all a b xs h all.1)

  pub greater_less : (a b : A) → R a b ≡ Greater → R b a ≡ Less
  greater_less a b h = o.antisymm b a ∙ ap ordering_reverse h

  -- whether the order finds the element in the list
  abbrev pub found_in : List A → A → Bool
  found_in xs a = list_any (eq_by_cmp R a) xs

  -- what is below each element is not among them
  pub absent : (a : A) (xs : List A) → AllByRecursion (λ x. R a x ≡ Less) xs → found_in xs a ≡ false
  absent a [] all = refl
  absent a (x ∷ xs) all = rw (all.0, absent a xs all.1) refl

  present : (a : A) (xs : List A) → found_in (a ∷ xs) a ≡ true
  present a xs = rw (tied_itself o a) refl

  insert_all : (b a : A) (xs : List A) → R b a ≡ Less → AllByRecursion (λ x. R b x ≡ Less) xs → AllByRecursion (λ x. R b x ≡ Less) (insert_in R a xs)
  insert_all b a [] h all = (h, tt)
  insert_all b a (x ∷ xs) h all = at (insert_all b a xs h all.1) (R a x)
    where
      at : AllByRecursion (λ y. R b y ≡ Less) (insert_in R a xs) → (c : Ordering) → AllByRecursion (λ y. R b y ≡ Less) (match_ordering c (a ∷ x ∷ xs) (x ∷ xs) (x ∷ insert_in R a xs))
      at later Less = (h, all)
      at later Equal = all
      at later Greater = (all.0, later)

  insert_in-ascending : (a : A) (xs : List A) → IsStrictlySortedBy R xs → IsStrictlySortedBy R (insert_in R a xs)
  unfolding IsStrictlySortedBy
  insert_in-ascending a [] up = (tt, tt)
  insert_in-ascending a (x ∷ xs) up = at (insert_in-ascending a xs up.1) (R a x) refl
    where
      at : IsStrictlySortedBy R (insert_in R a xs) → (c : Ordering) → R a x ≡ c → IsStrictlySortedBy R (match_ordering c (a ∷ x ∷ xs) (x ∷ xs) (x ∷ insert_in R a xs))
      at later Less h = ((h, less_all a x xs h up.0), up)
      at later Equal h = up
      at later Greater h = (insert_all x a xs (greater_less a x h) up.0, later)

  pub ascending_from-ascending : (xs : List A) → IsStrictlySortedBy R (ascending_from R xs)
  unfolding IsStrictlySortedBy
  ascending_from-ascending [] = tt
  ascending_from-ascending (x ∷ xs) = insert_in-ascending x (ascending_from R xs) (ascending_from-ascending xs)

  module _ (exact : (a b : A) → R a b ≡ Equal → a ≡ b) where
    found_in-insert_in : (a : A) (xs : List A) (q : A) → found_in (insert_in R a xs) q ≡ (eq_by_cmp R q a || found_in xs q)
    found_in-insert_in a [] q = refl
    found_in-insert_in a (x ∷ xs) q = at (found_in-insert_in a xs q) (R a x) refl
      where
        at : found_in (insert_in R a xs) q ≡ (eq_by_cmp R q a || found_in xs q) → (c : Ordering) → R a x ≡ c → found_in (match_ordering c (a ∷ x ∷ xs) (x ∷ xs) (x ∷ insert_in R a xs)) q ≡ (eq_by_cmp R q a || (eq_by_cmp R q x || found_in xs q))
        at later Less h = refl
        at later Equal h =
            let same : a ≡ x = exact a x h in
            rw same (or_twice (eq_by_cmp R q x) (found_in xs q))
        at later Greater h = ap (λ (b : Bool). eq_by_cmp R q x || b) later ∙ or_swap (eq_by_cmp R q x) (eq_by_cmp R q a) (found_in xs q)

    found_in-ascending_from : (xs : List A) (q : A) → found_in (ascending_from R xs) q ≡ found_in xs q
    found_in-ascending_from [] q = refl
    found_in-ascending_from (x ∷ xs) q = found_in-insert_in x (ascending_from R xs) q ∙ ap (λ (b : Bool). eq_by_cmp R q x || b) (found_in-ascending_from xs q)

    -- two ascending lists in which the same is found are the same list
    same_found : (xs ys : List A) → IsStrictlySortedBy R xs → IsStrictlySortedBy R ys → ((q : A) → found_in xs q ≡ found_in ys q) → xs ≡ ys
    unfolding IsStrictlySortedBy
    same_found [] [] u v h = refl
    same_found [] (y ∷ ys) u v h = let t = present y ys in let n = h y in cc
    same_found (x ∷ xs) [] u v h = let t = present x xs in let n = h x in cc
    same_found (x ∷ xs) (y ∷ ys) u v h = at (λ t. same_found xs ys u.1 v.1 t) (R x y) refl
      where
        tails : x ≡ y → (q : A) (b : Bool) → eq_by_cmp R q x ≡ b → found_in xs q ≡ found_in ys q
        tails e q true t =
            let s : q ≡ x = exact q x (equal_from (R q x) t) in
            let l = absent x xs u.0 in
            let r = absent y ys v.0 in
            rw (s, l, e, r) refl
        tails e q false t = or_same (eq_by_cmp R q x) (found_in xs q) (found_in ys q) t (h q ∙ ap (λ (z : A). eq_by_cmp R q z || found_in ys q) (sym e))

        at : (((q : A) → found_in xs q ≡ found_in ys q) → xs ≡ ys) → (c : Ordering) → R x y ≡ c → x ∷ xs ≡ y ∷ ys
        at later Less k = let n = absent x (y ∷ ys) (k, less_all x y ys k v.0) in let t = present x xs in let m = h x in cc
        at later Equal k =
            let e : x ≡ y = exact x y k in
            let r : xs ≡ ys = later (λ q. tails e q (eq_by_cmp R q x) refl) in
            λ i. e i ∷ r i
        at later Greater k =
            let g = greater_less x y k in
            let n = absent y (x ∷ xs) (g, less_all y x xs g u.0) in let t = present y ys in let m = h y in cc

    pub found_in-Decides : (xs : List A) (q : A) → Decides (found_in xs q) (Contains xs q)
    found_in-Decides xs q = (Contains-from_any (λ x y t. exact x y (equal_from (R x y) t)) q xs, list_any-from_Contains (eq_by_cmp_equiv o) q xs)

    -- an ascending list with the members of a list is the one that inserting them one by one makes
    pub ascending_from-is : (xs ys : List A) → IsStrictlySortedBy R xs → ((q : A) → Contains xs q ↔ Contains ys q) → xs ≡ ascending_from R ys
    ascending_from-is xs ys up same =
        same_found xs (ascending_from R ys) up (ascending_from-ascending ys)
        (λ q. one_answer _ _ (found_in-Decides xs q) ((λ t. (same q).1 ((found_in-Decides ys q).0 t)), (λ m. (found_in-Decides ys q).1 ((same q).0 m))) ∙ sym (found_in-ascending_from ys q))

    -- it has the elements of the list
    pub ascending_from-Contains : (xs : List A) (q : A) → Contains (ascending_from R xs) q ↔ Contains xs q
    ascending_from-Contains xs q = (
      λ m. (found_in-Decides xs q).0 (sym (found_in-ascending_from xs q) ∙ (found_in-Decides (ascending_from R xs) q).1 m),
      λ m. (found_in-Decides (ascending_from R xs) q).0 (found_in-ascending_from xs q ∙ (found_in-Decides xs q).1 m),
    )
