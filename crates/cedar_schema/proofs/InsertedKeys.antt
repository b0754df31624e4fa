-- Keys that go into an ascending list one by one.
use Rattle.std.proofs.Common.{◌≡◌, zero, suc, List, [], ◌∷◌, All, Contains, refl, sym, ap, subst, ◌∙◌, arith, Ordering, Less, Equal, Greater}
use Rattle.std.proofs.lemmas.List.Elements.{All-cons, All-head, All-tail}
use Rattle.std.specs.BTreeSet.{insert_key}
use Rattle.std.specs.Cmp.{IsTotalOrder}
use Rattle.std.specs.List.{AllByRecursion}
use Rattle.std.specs.List.Sorted.{IsStrictlySortedBy}
use Rattle.std.specs.Ordering.{match_ordering, ordering_reverse}

pub here : {A : Type 0} (x : A) (xs : List A) → Contains (x ∷ xs) x
here x xs = (zero, omega arith, refl)

pub there : {A : Type 0} (x : A) (xs : List A) (y : A) → Contains xs y → Contains (x ∷ xs) y
there x xs y (k, lt, e) = (suc k, omega arith, e)

module _ {K : Type 0} (R : K → K → Ordering) where
  -- what holds of all keys and of one more
  pub all_keys : (P : K → Type 0) (k : K) (ks : List K) → P k → All P ks → All P (insert_key R ks k)
  all_keys P k [] h all = All-cons P k [] h all
  all_keys P k (x ∷ xs) h all = at (R k x) (all_keys P k xs h (All-tail P x xs all))
    where
      at : (c : Ordering) → All P (insert_key R xs k) → All P (match_ordering c (k ∷ x ∷ xs) (x ∷ xs) (x ∷ insert_key R xs k))
      at Less later = All-cons P k (x ∷ xs) h all
      at Equal later = all
      at Greater later = All-cons P x (insert_key R xs k) (All-head P x xs all) later

  -- keys stay
  pub kept_key : (k m : K) (ks : List K) → Contains ks m → Contains (insert_key R ks k) m
  kept_key k m [] h = there k [] m h
  kept_key k m (x ∷ xs) (zero, lt, e) = at (R k x)
    where
      first : Contains (x ∷ xs) m
      first = subst (λ y. Contains (x ∷ xs) y) e (here x xs)

      at : (c : Ordering) → Contains (match_ordering c (k ∷ x ∷ xs) (x ∷ xs) (x ∷ insert_key R xs k)) m
      at Less = there k (x ∷ xs) m first
      at Equal = first
      at Greater = subst (λ y. Contains (x ∷ insert_key R xs k) y) e (here x (insert_key R xs k))
  kept_key k m (x ∷ xs) (suc i, lt, e) = at (R k x) (kept_key k m xs (i, omega arith, e))
    where
      at : (c : Ordering) → Contains (insert_key R xs k) m → Contains (match_ordering c (k ∷ x ∷ xs) (x ∷ xs) (x ∷ insert_key R xs k)) m
      at Less later = there k (x ∷ xs) m (suc i, lt, e)
      at Equal later = (suc i, lt, e)
      at Greater later = there x (insert_key R xs k) m later

  -- the new one is there
  pub new_key : ((a b : K) → R a b ≡ Equal → a ≡ b) → (k : K) (ks : List K) → Contains (insert_key R ks k) k
  new_key exact k [] = here k []
  new_key exact k (x ∷ xs) = at (R k x) refl (new_key exact k xs)
    where
      at : (c : Ordering) → R k x ≡ c → Contains (insert_key R xs k) k → Contains (match_ordering c (k ∷ x ∷ xs) (x ∷ xs) (x ∷ insert_key R xs k)) k
      at Less h later = here k (x ∷ xs)
      at Equal h later = subst (λ y. Contains (x ∷ xs) y) (sym (exact k x h)) (here x xs)
      at Greater h later = there x (insert_key R xs k) k later

  module _ (o : IsTotalOrder R) where
    less_all : (a b : K) (xs : List K) → R a b ≡ Less → AllByRecursion (λ x. R b x ≡ Less) xs → AllByRecursion (λ x. R a x ≡ Less) xs
    less_all a b [] h all = tt
    less_all a b (x ∷ xs) h all = (o.trans a b x h all.0, less_all a b xs h all.1)

    above : (b k : K) (ks : List K) → R b k ≡ Less → AllByRecursion (λ x. R b x ≡ Less) ks → AllByRecursion (λ x. R b x ≡ Less) (insert_key R ks k)
    above b k [] h all = (h, tt)
    above b k (x ∷ xs) h all = at (R k x) (above b k xs h all.1)
      where
        at : (c : Ordering) → AllByRecursion (λ y. R b y ≡ Less) (insert_key R xs k) → AllByRecursion (λ y. R b y ≡ Less) (match_ordering c (k ∷ x ∷ xs) (x ∷ xs) (x ∷ insert_key R xs k))
        at Less later = (h, all)
        at Equal later = all
        at Greater later = (all.0, later)

    -- they ascend as before
    pub sorted_more : (k : K) (ks : List K) → IsStrictlySortedBy R ks → IsStrictlySortedBy R (insert_key R ks k)
    unfolding IsStrictlySortedBy
    sorted_more k [] up = (tt, tt)
    sorted_more k (x ∷ xs) up = at (R k x) refl (sorted_more k xs up.1)
      where
        at : (c : Ordering) → R k x ≡ c → IsStrictlySortedBy R (insert_key R xs k) → IsStrictlySortedBy R (match_ordering c (k ∷ x ∷ xs) (x ∷ xs) (x ∷ insert_key R xs k))
        at Less h later = ((h, less_all k x xs h up.0), up)
        at Equal h later = up
        at Greater h later = (above x k xs (o.antisymm x k ∙ ap ordering_reverse h) up.0, later)
