-- Ascending lists of values: how a sort makes one, what a search finds in one, and two walked side by side.
use Rattle.std.proofs.Common.{◌≡◌, ℕ, ◌+◌, true, false, List, [], ◌∷◌, length, get_or, refl, arith, Contains, ◌↔◌, IsTrue, Result, Ok, Err, is_ok, inl, inr, All, Any}
use Rattle.std.proofs.lemmas.Bool.{cases_lt}
use Rattle.std.proofs.lemmas.Map.Keys.{Less-from_sorted}
use Rattle.std.proofs.lemmas.Map.Views.{list_any-from_Contains, Contains-from_any}
use Rattle.std.proofs.lemmas.List.Sums.{AllPass-from_list_all, list_all-from_AllPass}
use Rattle.std.proofs.lemmas.List.Folds.{Any-from_list_any, list_any-from_Any}
use Rattle.std.proofs.lemmas.List.Elements.{All-weaker}
use Rattle.std.proofs.lemmas.List.Kept.{Contains-dedup, Contains-from_dedup, IsStrictlySortedBy-dedup}
use Rattle.std.proofs.lemmas.List.Sorted.{searchable_from_sorted, IsPermutation-sym, Contains-permutation}
use Rattle.std.specs.Bool.{Decides}
use Rattle.std.specs.declared.cmp.Ordering.{Ordering}
use Rattle.std.specs.declared.cmp.Ordering.TheVariants.{Less, Equal, Greater}
use Rattle.std.specs.List.{dedup, AllByRecursion, list_all, list_any}
use Rattle.std.specs.List.Sorted.{IsStrictlySortedBy, IsSorted, IsSortedBy, IsPermutation, IsSearchInRange, IsBinarySearchResult, IsPartitionPoint}
use Rattle.std.specs.Ordering.{is_lt}
use Rattle.cedar_value.specs.Datum.{Datum, same}
use Rattle.cedar_value.specs.Private.Equality.{same-Decides, same_equivalence}
use Rattle.cedar_value.specs.Private.Laws.{datum_ties}
use Rattle.cedar_value.specs.Order.{datum_cmp, IsAscending}
use Rattle.cedar_value.specs.Private.Same.{datum_cmp_total, datum_same, datum_itself}
use Rattle.cedar_value.specs.Sets.{has_member, SameMembers, set_from}
use Rattle.cedar_value.proofs.AscendingLists.{less_all, ascending_from-is}

-- ---- the list that a sort makes

pub IsAscending-dedup : (ds : List Datum) → IsSorted datum_cmp ds → IsAscending (dedup same ds)
IsAscending-dedup ds h = IsStrictlySortedBy-dedup datum_cmp_total datum_ties ds h

pub SameMembers-dedup : (ds es : List Datum) → IsPermutation ds es → SameMembers (dedup same es) ds
SameMembers-dedup ds es p d = (
  λ h. Contains-permutation es ds d (IsPermutation-sym ds es p) (Contains-from_dedup same es d h),
  λ h. Contains-dedup same_equivalence (λ x y t. (same-Decides x y).0 t) es d (Contains-permutation ds es d p h),
)

pub set_from-members : (s ds : List Datum) → IsAscending s → SameMembers s ds → s ≡ set_from ds
set_from-members s ds up members = ascending_from-is datum_cmp_total datum_same s ds up members

-- ---- a search

greater_not_less : (x y : Datum) (o : Ordering) → o ≡ datum_cmp x y → datum_cmp y x ≡ Less → is_lt o ≡ false
greater_not_less x y o e h = rw (e, datum_cmp_total.antisymm, h) refl

-- no later member of an ascending list is below an earlier one
sorted_from_ascending : (ds : List Datum) → IsAscending ds → IsSortedBy (λ a b. is_lt (datum_cmp a b)) ds
sorted_from_ascending ds h k d low high =
    let less = Less-from_sorted datum_cmp ds k (k + 1) d h (omega arith) high in
    greater_not_less (get_or ds (k + 1) d) (get_or ds k d) _ refl less

less_not_equal : (y z : Datum) → datum_cmp y z ≡ Less → y ≡ z → ⊥
less_not_equal y z h q = let e : datum_cmp z z ≡ Less = rw q at h in let i = datum_itself z in cc

greater_not_equal : (y z : Datum) → datum_cmp y z ≡ Greater → y ≡ z → ⊥
greater_not_equal y z h q = let e : datum_cmp z z ≡ Greater = rw q at h in let i = datum_itself z in cc

nowhere : (ds : List Datum) (d : Datum) (i : ℕ) → IsPartitionPoint (λ y. datum_cmp y d ≡ Less) (λ y. datum_cmp y d ≡ Greater) ds i → Contains ds d → ⊥
nowhere ds d i parts (k, lt, is) = elim (cases_lt k i) [
  | inl below ↦ less_not_equal _ _ (parts.0 k d (omega arith) below) is
  | inr above ↦ greater_not_equal _ _ (parts.1 k d above lt) is
]

-- what a binary search tells of an ascending list
pub searched_members : (ds : List Datum) (d : Datum) (r : Result ℕ ℕ) → IsAscending ds → IsSearchInRange r (length ds) → IsBinarySearchResult (λ y. datum_cmp y d) ds r → IsTrue (is_ok r) ↔ Contains ds d
searched_members ds d (Ok i) up bound found = (λ _. (i, bound, datum_same _ _ (found d)), λ _. refl)
searched_members ds d (Err i) up bound gap =
    let parts = gap (searchable_from_sorted datum_cmp_total (λ y. y) ds d (sorted_from_ascending ds up)) in
    (λ h. cc, λ m. absurd (nowhere ds d i parts m))

-- ---- the tests decide the relations

pub has_member-Contains : (ds : List Datum) (d : Datum) → Decides (has_member ds d) (Contains ds d)
has_member-Contains ds d = (Contains-from_any (λ x y. (same-Decides x y).0) d ds, list_any-from_Contains same_equivalence d ds)

pub list_all-Contains : (ds es : List Datum) → Decides (list_all (has_member ds) es) (All (Contains ds) es)
list_all-Contains ds es = (
  λ h. All-weaker (λ e. has_member ds e ≡ true) (Contains ds) (λ e. (has_member-Contains ds e).0) es (AllPass-from_list_all (has_member ds) es h),
  λ h. list_all-from_AllPass (has_member ds) es (All-weaker (Contains ds) (λ e. has_member ds e ≡ true) (λ e. (has_member-Contains ds e).1) es h),
)

pub list_any-Contains : (ds es : List Datum) → Decides (list_any (has_member ds) es) (Any (Contains ds) es)
list_any-Contains ds es =
    (λ h. some (Any-from_list_any (has_member ds) es h), λ h. list_any-from_Any (has_member ds) es (found h))
  where
    some : Any (λ e. has_member ds e ≡ true) es → Any (Contains ds) es
    some (k, e, lt, is, h) = (k, e, lt, is, (has_member-Contains ds e).0 h)

    found : Any (Contains ds) es → Any (λ e. has_member ds e ≡ true) es
    found (k, e, lt, is, h) = (k, e, lt, is, (has_member-Contains ds e).1 h)

-- ---- two ascending lists side by side: xs are the members, ys are looked for

-- a value that is below another is another
apart : (x y : Datum) → datum_cmp x y ≡ Less → same y x ≡ false
apart x y h = rw (datum_ties y x, datum_cmp_total.antisymm, h) refl

all_below : (x : Datum) (xs ys : List Datum) → AllByRecursion (λ y. datum_cmp x y ≡ Less) ys → list_all (has_member (x ∷ xs)) ys ≡ list_all (has_member xs) ys
all_below x xs [] low = refl
all_below x xs (y ∷ ys) low = rw (apart x y low.0, all_below x xs ys low.1) refl

any_below : (x : Datum) (xs ys : List Datum) → AllByRecursion (λ y. datum_cmp x y ≡ Less) ys → list_any (has_member (x ∷ xs)) ys ≡ list_any (has_member xs) ys
any_below x xs [] low = refl
any_below x xs (y ∷ ys) low = rw (apart x y low.0, any_below x xs ys low.1) refl

none_there : (x : Datum) (xs : List Datum) → AllByRecursion (λ y. datum_cmp x y ≡ Less) xs → has_member xs x ≡ false
none_there x [] low = refl
none_there x (y ∷ ys) low = rw (datum_ties x y, low.0, none_there x ys low.1) refl

tied : (x y : Datum) (xs : List Datum) → datum_cmp x y ≡ Equal → has_member (x ∷ xs) y ≡ true
tied x y xs h = let e : x ≡ y = datum_same x y h in rw (e, (same-Decides y y).1 refl) refl

above : (x y : Datum) → datum_cmp x y ≡ Greater → datum_cmp y x ≡ Less
above x y h = rw (datum_cmp_total.antisymm, h) refl

module _ (x y : Datum) (xs ys : List Datum) (up : IsAscending (x ∷ xs)) (wanted : IsAscending (y ∷ ys)) where
  pub all-less : datum_cmp x y ≡ Less → list_all (has_member (x ∷ xs)) (y ∷ ys) ≡ list_all (has_member xs) (y ∷ ys)
  unfolding IsStrictlySortedBy
  all-less h = all_below x xs (y ∷ ys) (h, less_all datum_cmp_total x y ys h wanted.0)

  pub all-equal : datum_cmp x y ≡ Equal → list_all (has_member (x ∷ xs)) (y ∷ ys) ≡ list_all (has_member xs) ys
  unfolding IsStrictlySortedBy
  all-equal h = let e : x ≡ y = datum_same x y h in rw (tied x y xs h) (all_below x xs ys (rw e wanted.0))

  pub all-greater : datum_cmp x y ≡ Greater → list_all (has_member (x ∷ xs)) (y ∷ ys) ≡ false
  unfolding IsStrictlySortedBy
  all-greater h =
      let low = above x y h in
      let none : has_member (x ∷ xs) y ≡ false = none_there y (x ∷ xs) (low, less_all datum_cmp_total y x xs low up.0) in
      rw none refl

  pub any-less : datum_cmp x y ≡ Less → list_any (has_member (x ∷ xs)) (y ∷ ys) ≡ list_any (has_member xs) (y ∷ ys)
  unfolding IsStrictlySortedBy
  any-less h = any_below x xs (y ∷ ys) (h, less_all datum_cmp_total x y ys h wanted.0)

  pub any-equal : datum_cmp x y ≡ Equal → list_any (has_member (x ∷ xs)) (y ∷ ys) ≡ true
  any-equal h = rw (tied x y xs h) refl

  pub any-greater : datum_cmp x y ≡ Greater → list_any (has_member (x ∷ xs)) (y ∷ ys) ≡ list_any (has_member (x ∷ xs)) ys
  unfolding IsStrictlySortedBy
  any-greater h =
      let low = above x y h in
      let none : has_member (x ∷ xs) y ≡ false = none_there y (x ∷ xs) (low, less_all datum_cmp_total y x xs low up.0) in
      rw none refl

-- in no members nothing is found
pub any-none : (ys : List Datum) → list_any (has_member []) ys ≡ false
any-none [] = refl
any-none (y ∷ ys) = any-none ys
