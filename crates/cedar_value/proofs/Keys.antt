-- Pairs that ascend by their keys: what a search finds in them, and the record that they make.
use Rattle.std.proofs.Common.{◌≡◌, ℕ, false, List, [], ◌∷◌, ◌<◌, length, get_or, refl, ◌∙◌, Some, None, Err}
use Rattle.std.proofs.lemmas.List.Sorted.{IsPermutation-sym, Contains-permutation}
use Rattle.std.specs.declared.cmp.Ordering.{Ordering}
use Rattle.std.specs.declared.cmp.Ordering.TheVariants.{Less, Equal, Greater}
use Rattle.std.specs.Ordering.{is_lt, ordering_then}
use Rattle.std.specs.List.{AllByRecursion}
use Rattle.std.specs.List.Sorted.{IsStrictlySortedBy, IsSorted, IsBinarySearchResult, IsPermutation}
use Rattle.cedar_value.specs.Datum.{Datum}
use Rattle.cedar_value.specs.Private.Laws.{pair_total}
use Rattle.cedar_value.specs.Order.{AreKeysAscending, text_cmp, pair_cmp, datum_cmp}
use Rattle.cedar_value.specs.Records.{value_at, AreKeysDistinct, SamePairs, record_from}
use Rattle.cedar_value.specs.Private.Same.{text_same, datum_same}
use Rattle.cedar_value.proofs.AscendingLists.{ascending_from-is}
use Rattle.cedar_value.proofs.ByKeys.{keys_of, look-place, look-gap, ascending-distinct}

-- a pair
abbrev Pair : Type 0
Pair = List ℕ × Datum

abbrev pub key : Pair → List ℕ
key p = p.0

-- ---- a search

-- the value at a key that is at place i
pub value_at-place : (ps : List Pair) (k : List ℕ) (i : ℕ) (p : Pair) → AreKeysAscending ps → i < length ps → p ≡ get_or ps i p → text_cmp p.0 k ≡ Equal → value_at k ps ≡ Some p.1
value_at-place = look-place key (λ p. p.1) value_at (λ k. refl) (λ k p ps. refl)

-- what a binary search tells of a key that it doesn't find
pub value_at-gap : (ps : List Pair) (k : List ℕ) (i : ℕ) → AreKeysAscending ps → IsBinarySearchResult (λ p. text_cmp p.0 k) ps (Err i) → value_at k ps ≡ None
value_at-gap = look-gap key (λ p. p.1) value_at (λ k. refl) (λ k p ps. refl)

-- ---- the record of sorted pairs

key_first : (o p : Ordering) → is_lt (ordering_then o p) ≡ false → is_lt o ≡ false
key_first Less p h = h
key_first Equal p h = refl
key_first Greater p h = refl

-- distinct keys ascend once the pairs are sorted
pub sorted-distinct : (ps qs : List Pair) → IsPermutation ps qs → IsSorted pair_cmp qs → AreKeysDistinct ps → AreKeysAscending qs
sorted-distinct ps qs moved sorted distinct = ascending-distinct key ps qs moved (λ k d low high. key_first _ _ (sorted k d low high)) distinct

pub SamePairs-sorted : (ps qs : List Pair) → IsPermutation ps qs → SamePairs qs ps
SamePairs-sorted ps qs moved p = (λ h. Contains-permutation qs ps p (IsPermutation-sym ps qs moved) h, λ h. Contains-permutation ps qs p moved h)

pub pair_same : (p q : Pair) → pair_cmp p q ≡ Equal → p ≡ q
pair_same p q e = by (text_cmp p.0 q.0) (datum_cmp p.1 q.1) refl refl e
  where
    by : (o c : Ordering) → text_cmp p.0 q.0 ≡ o → datum_cmp p.1 q.1 ≡ c → ordering_then o c ≡ Equal → p ≡ q
    by Less c f g h = cc
    by Equal c f g h = λ i. (text_same p.0 q.0 f i, datum_same p.1 q.1 (g ∙ h) i)
    by Greater c f g h = cc

-- pairs whose keys ascend ascend
ascending_pairs : (ps : List Pair) → AreKeysAscending ps → IsStrictlySortedBy pair_cmp ps
unfolding IsStrictlySortedBy
ascending_pairs [] up = tt
ascending_pairs (p ∷ ps) up = (lifted ps up.0, ascending_pairs ps up.1)
  where
    lifted : (qs : List Pair) → AllByRecursion (λ k. text_cmp p.0 k ≡ Less) (keys_of key qs) → AllByRecursion (λ q. pair_cmp p q ≡ Less) qs
    lifted [] all = tt
    lifted (q ∷ qs) all = (rw all.0 refl, lifted qs all.1)

pub record_from-pairs : (r ps : List Pair) → AreKeysAscending r → SamePairs r ps → r ≡ record_from ps
record_from-pairs r ps up pairs = ascending_from-is pair_total pair_same r ps (ascending_pairs r up) pairs
