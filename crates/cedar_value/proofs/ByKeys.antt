-- Elements that ascend by a key that is a text: when they do, what a search finds among them, and what a sort makes of them.
use Rattle.std.proofs.Common.{◌≡◌, ◌≢◌, ◌↔◌, ℕ, zero, suc, ◌+◌, ◌<◌, true, false, cond, List, [], ◌∷◌, length, get_or, map, refl, arith, ap, sym, ◌∙◌, Option, Some, None, Err, inl, inr}
use Rattle.std.proofs.Math.ListN.{length-map, get_or-map}
use Rattle.std.proofs.lemmas.Bool.{cases_lt}
use Rattle.std.proofs.lemmas.Cmp.{nat_list_cmp_total}
use Rattle.std.proofs.lemmas.Map.Keys.{Less-from_sorted, sorted_tail, sorted_from_all_adjacent, IsDistinct-from_sorted, IsDistinct-IsPermutation, apart_from_distinct}
use Rattle.std.proofs.lemmas.Map.Made.{AllPairs-from_IsDistinct, IsDistinct-from_AllPairs}
use Rattle.std.proofs.lemmas.List.Sorted.{searchable_from_sorted, IsPermutation-sym, IsPermutation-map}
use Rattle.std.proofs.lemmas.Slice.Eq.{bytes_eq-Decides}
use Rattle.std.specs.declared.cmp.Ordering.{Ordering}
use Rattle.std.specs.declared.cmp.Ordering.TheVariants.{Less, Equal, Greater}
use Rattle.std.specs.Ordering.{is_lt, is_ge, is_eq, eq_by_cmp, ordering_reverse}
use Rattle.std.specs.List.{IsDistinct, AllPairs}
use Rattle.std.specs.List.Sorted.{IsStrictlySortedBy, IsSortedBy, IsBinarySearchResult, IsPermutation}
use Rattle.std.specs.Str.{bytes_eq}
use Rattle.cedar_value.specs.Private.Laws.{text_ties}
use Rattle.cedar_value.specs.Private.Same.{text_same}
use Rattle.cedar_value.specs.Order.{text_cmp}
use Rattle.cedar_value.proofs.AscendingLists.{less_all}

pub less_from_ge : (o : Ordering) → is_ge o ≡ false → o ≡ Less
less_from_ge Less h = refl
less_from_ge Equal h = cc
less_from_ge Greater h = cc

pub ge_not_less : (o : Ordering) → is_ge o ≡ true → o ≡ Less → ⊥
ge_not_less Less h e = cc
ge_not_less Equal h e = cc
ge_not_less Greater h e = cc

bytes_flip : (s t : List ℕ) → bytes_eq s t ≡ bytes_eq t s
bytes_flip s t = text_ties s t ∙ flipped (text_cmp s t) (text_cmp t s) (nat_list_cmp_total.antisymm s t) ∙ sym (text_ties t s)
  where
    flipped : (o p : Ordering) → o ≡ ordering_reverse p → is_eq o ≡ is_eq p
    flipped o Less e = ap is_eq e
    flipped o Equal e = ap is_eq e
    flipped o Greater e = ap is_eq e

rising : (o : Ordering) → is_lt o ≡ false → is_eq o ≡ false → o ≡ Greater
rising Less h e = cc
rising Equal h e = cc
rising Greater h e = refl

module _ {A : Type 0} (key : A → List ℕ) where
  abbrev pub keys_of : List A → List (List ℕ)
  keys_of = map key

  abbrev pub Ascend : List A → Type 0
  Ascend xs = IsStrictlySortedBy text_cmp (map key xs)

  abbrev pub Differ : List A → Type 0
  Differ xs = AllPairs (λ k l. k ≢ l) (map key xs)

  -- ---- the walk that tests the keys

  pub ascend_more : (x y : A) (ys : List A) → text_cmp (key x) (key y) ≡ Less → Ascend (x ∷ y ∷ ys) ↔ Ascend (y ∷ ys)
  unfolding IsStrictlySortedBy
  ascend_more x y ys h = (λ up. up.1, λ up. ((h, less_all nat_list_cmp_total (key x) (key y) (keys_of ys) h up.0), up))

  pub ascend_not : (x y : A) (ys : List A) → (text_cmp (key x) (key y) ≡ Less → ⊥) → Ascend (x ∷ y ∷ ys) → ⊥
  unfolding IsStrictlySortedBy
  ascend_not x y ys h up = h up.0.0

  pub ascend_one : (x : A) → Ascend (x ∷ [])
  unfolding IsStrictlySortedBy
  ascend_one x = (tt, tt)

  pub ascend_none : Ascend []
  unfolding IsStrictlySortedBy
  ascend_none = tt

  -- ---- a search

  below_later : (xs : List A) → Ascend xs → (i j : ℕ) (d : A) → i < j → j < length xs → text_cmp (key (get_or xs i d)) (key (get_or xs j d)) ≡ Less
  below_later xs up i j d lt high =
      let less = Less-from_sorted text_cmp (keys_of xs) i j (key d) up lt (rw length-map high) in
      rw (get_or-map key xs i d, get_or-map key xs j d) at less

  pub sorted_keys : (xs : List A) → Ascend xs → IsSortedBy (λ a b. is_lt (text_cmp (key a) (key b))) xs
  sorted_keys xs up k d low high =
      let less = below_later xs up k (k + 1) d (omega arith) high in
      rw (nat_list_cmp_total.antisymm, less) refl

  -- what comes before the place of an element is below its key
  pub first_below : (x : A) (xs : List A) (i : ℕ) (d : A) (k : List ℕ) → Ascend (x ∷ xs) → i < length xs → key (get_or xs i d) ≡ k → text_cmp (key x) k ≡ Less
  first_below x xs i d k up lt is =
      let within : suc i < length (x ∷ xs) = omega arith in
      let less : text_cmp (key x) (get_or (keys_of xs) i (key d)) ≡ Less = Less-from_sorted text_cmp (keys_of (x ∷ xs)) 0 (suc i) (key d) up (omega arith) (rw length-map within) in
      rw (get_or-map key xs i d ∙ is) at less

  -- `look` finds what `found` makes of the first element that has the key
  module _ {B : Type 0} (found : A → B) (look : List ℕ → List A → Option B)
      (look_none : (k : List ℕ) → look k [] ≡ None)
      (look_more : (k : List ℕ) (x : A) (xs : List A) → look k (x ∷ xs) ≡ cond (bytes_eq (key x) k) (Some (found x)) (look k xs)) where
    -- an element that is at place i
    pub look-place : (xs : List A) (k : List ℕ) (i : ℕ) (x : A) → Ascend xs → i < length xs → x ≡ get_or xs i x → text_cmp (key x) k ≡ Equal → look k xs ≡ Some (found x)
    look-place [] k i x up lt is same = absurd (omega arith)
    look-place (y ∷ ys) k zero x up lt is same =
        let e : key y ≡ k = ap key (sym is) ∙ text_same (key x) k same in
        let t : bytes_eq (key y) k ≡ true = (bytes_eq-Decides (key y) k).1 e in
        look_more k y ys ∙ rw t (ap (λ (z : A). Some (found z)) (sym is))
    look-place (y ∷ ys) k (suc i) x up lt is same =
        let less : text_cmp (key y) k ≡ Less = first_below y ys i x k up (omega arith) (ap key (sym is) ∙ text_same (key x) k same) in
        let t : bytes_eq (key y) k ≡ false = text_ties (key y) k ∙ ap is_eq less in
        look_more k y ys ∙ rw t (look-place ys k i x (sorted_tail text_cmp _ _ up) (omega arith) is same)

    -- nothing where no key is the same
    look-none : (xs : List A) (k : List ℕ) → ((j : ℕ) (d : A) → j < length xs → is_eq (text_cmp (key (get_or xs j d)) k) ≡ false) → look k xs ≡ None
    look-none [] k h = look_none k
    look-none (y ∷ ys) k h =
        let t : bytes_eq (key y) k ≡ false = text_ties (key y) k ∙ h 0 y (omega arith) in
        look_more k y ys ∙ rw t (look-none ys k (λ j d lt. h (suc j) d (omega arith)))

    -- what a binary search tells of a key that it doesn't find
    pub look-gap : (xs : List A) (k : List ℕ) (i : ℕ) → Ascend xs → IsBinarySearchResult (λ x. text_cmp (key x) k) xs (Err i) → look k xs ≡ None
    look-gap xs k i up gap = look-none xs k differs
      where
        differs : (j : ℕ) (d : A) → j < length xs → is_eq (text_cmp (key (get_or xs j d)) k) ≡ false
        differs j d lt =
            let parts = gap (searchable_from_sorted nat_list_cmp_total key xs k (sorted_keys xs up)) in
            elim (cases_lt j i) [
              | inl below ↦ rw (parts.0 j d (omega arith) below) refl
              | inr above ↦ rw (parts.1 j d above lt) refl
            ]

  -- ---- what a sort makes

  -- keys that ascend are distinct, and so they are in any order
  pub distinct-ascending : (xs ys : List A) → IsPermutation xs ys → Ascend ys → Differ xs
  distinct-ascending xs ys moved up =
      let by_order : IsDistinct (eq_by_cmp text_cmp) (keys_of ys) = IsDistinct-from_sorted text_cmp (keys_of ys) up in
      let there = AllPairs-from_IsDistinct told (keys_of ys) by_order in
      let apart : IsDistinct bytes_eq (keys_of ys) = IsDistinct-from_AllPairs bytes_eq-Decides (keys_of ys) there in
      AllPairs-from_IsDistinct bytes_eq-Decides (keys_of xs) (IsDistinct-IsPermutation bytes_eq bytes_flip (keys_of ys) (keys_of xs) (IsPermutation-sym _ _ (IsPermutation-map key xs ys moved)) apart)
    where
      told : (s t : List ℕ) → (eq_by_cmp text_cmp s t ≡ true → s ≡ t) × (s ≡ t → eq_by_cmp text_cmp s t ≡ true)
      told s t = (λ e. (bytes_eq-Decides s t).0 (text_ties s t ∙ e), λ e. sym (text_ties s t) ∙ (bytes_eq-Decides s t).1 e)

  -- distinct keys ascend once they are sorted
  pub ascending-distinct : (xs ys : List A) → IsPermutation xs ys → IsSortedBy (λ a b. is_lt (text_cmp (key a) (key b))) ys → Differ xs → Ascend ys
  ascending-distinct xs [] moved sorted distinct = ascend_none
  ascending-distinct xs (y ∷ ys) moved sorted distinct = sorted_from_all_adjacent nat_list_cmp_total (keys_of (y ∷ ys)) (key y) next
    where
      apart : IsDistinct bytes_eq (keys_of (y ∷ ys))
      apart = IsDistinct-IsPermutation bytes_eq bytes_flip (keys_of xs) (keys_of (y ∷ ys)) (IsPermutation-map key xs (y ∷ ys) moved) (IsDistinct-from_AllPairs bytes_eq-Decides (keys_of xs) distinct)

      next : (k : ℕ) → k + 1 < length (keys_of (y ∷ ys)) → text_cmp (get_or (keys_of (y ∷ ys)) k (key y)) (get_or (keys_of (y ∷ ys)) (k + 1) (key y)) ≡ Less
      next k high =
          let a = get_or (y ∷ ys) k y in
          let b = get_or (y ∷ ys) (k + 1) y in
          let within : k + 1 < length (y ∷ ys) = rw length-map at high in
          let differ = apart_from_distinct bytes_eq (keys_of (y ∷ ys)) k (k + 1) (key y) apart (omega arith) high in
          let keys_differ : bytes_eq (key a) (key b) ≡ false = rw (get_or-map key (y ∷ ys) k y, get_or-map key (y ∷ ys) (k + 1) y) at differ in
          let untied : is_eq (text_cmp (key b) (key a)) ≡ false = sym (text_ties (key b) (key a)) ∙ bytes_flip (key b) (key a) ∙ keys_differ in
          let greater : text_cmp (key b) (key a) ≡ Greater = rising (text_cmp (key b) (key a)) (sorted k y (omega arith) within) untied in
          rw (get_or-map key (y ∷ ys) k y, get_or-map key (y ∷ ys) (k + 1) y) (nat_list_cmp_total.antisymm (key a) (key b) ∙ ap ordering_reverse greater)
