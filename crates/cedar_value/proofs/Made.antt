-- The set of a list and the record of pairs, and what is found at a key of a record.
use Rattle.std.proofs.Common.{◌≡◌, ◌≢◌, ℕ, zero, suc, Bool, true, false, cond, List, [], ◌∷◌, map, Option, Some, refl, sym, ap, ◌∙◌, arith, Contains, ⊎_elim, subst}
use Rattle.std.proofs.lemmas.Option.{same_Some}
use Rattle.std.proofs.lemmas.Slice.Eq.{bytes_eq-Decides}
use Rattle.std.specs.Str.{bytes_eq}
use Rattle.std.specs.List.{AllByRecursion, AllPairs}
use Rattle.std.specs.List.Sorted.{IsStrictlySortedBy}
use Rattle.std.specs.Ordering.{ordering_then}
use Rattle.std.specs.declared.cmp.Ordering.{Ordering}
use Rattle.std.specs.declared.cmp.Ordering.TheVariants.{Less, Equal, Greater}
use Rattle.base_reach.proofs.Listed.{here, there, first_or_later, nowhere, mapped}
use Rattle.cedar_value.specs.Datum.{Datum}
use Rattle.cedar_value.specs.Order.{AreKeysAscending, IsAscending, text_cmp, pair_cmp, datum_cmp}
use Rattle.cedar_value.specs.Private.Laws.{pair_total}
use Rattle.cedar_value.specs.Private.Same.{datum_cmp_total, datum_same, datum_itself, text_same}
use Rattle.cedar_value.specs.Records.{AreKeysDistinct, SamePairs, record_from, value_at}
use Rattle.cedar_value.specs.Sets.{SameMembers, set_from}
use Rattle.cedar_value.proofs.AscendingLists.{ascending_from-ascending, ascending_from-Contains}
use Rattle.cedar_value.proofs.Keys.{pair_same, record_from-pairs}

Pair : Type 0
Pair = List ℕ × Datum

-- ---- sets

pub set_from-members_of : (ds : List Datum) → SameMembers (set_from ds) ds
set_from-members_of ds = ascending_from-Contains datum_cmp_total datum_same ds

pub set_from-ascending : (ds : List Datum) → IsAscending (set_from ds)
set_from-ascending ds = ascending_from-ascending datum_cmp_total ds

-- ---- what is found at a key

apart_first : (k : List ℕ) (ks : List (List ℕ)) → AllPairs (λ a b. a ≢ b) (k ∷ ks) → (l : List ℕ) → Contains ks l → k ≡ l → ⊥
apart_first k ks apart l (i, within, is) same = apart zero (suc i) l (omega arith) (omega arith) (same ∙ sym is)

apart_later : (k : List ℕ) (ks : List (List ℕ)) → AllPairs (λ a b. a ≢ b) (k ∷ ks) → AllPairs (λ a b. a ≢ b) ks
apart_later k ks apart i j d low high = apart (suc i) (suc j) d (omega arith) (omega arith)

found_case : (p : List ℕ × Datum) (ps : List (List ℕ × Datum)) (k : List ℕ) (v : Datum) (b : Bool) → bytes_eq p.0 k ≡ b → (value_at k ps ≡ Some v → Contains ps (k, v))
    → cond b (Some p.1) (value_at k ps) ≡ Some v → Contains (p ∷ ps) (k, v)
found_case p ps k v true tie rest h =
    let key = (bytes_eq-Decides p.0 k).0 tie in
    let value = same_Some _ _ h in
    (zero, omega arith, λ i. (key i, value i))
found_case p ps k v false tie rest h = there p ps (k, v) (rest h)

pub value_at-Contains : (ps : List (List ℕ × Datum)) (k : List ℕ) (v : Datum) → value_at k ps ≡ Some v → Contains ps (k, v)
value_at-Contains [] k v h = cc
value_at-Contains (p ∷ ps) k v h = found_case p ps k v (bytes_eq p.0 k) refl (value_at-Contains ps k v) h

here_case : (p : List ℕ × Datum) (o : Option Datum) (k : List ℕ) (v : Datum) (b : Bool) → bytes_eq p.0 k ≡ b → p ≡ (k, v) → cond b (Some p.1) o ≡ Some v
here_case p o k v true tie is = ap (λ (q : List ℕ × Datum). Some q.1) is
here_case p o k v false tie is = let same = (bytes_eq-Decides p.0 k).1 (ap (λ (q : List ℕ × Datum). q.0) is) in cc

later_case : (p : List ℕ × Datum) (o : Option Datum) (k : List ℕ) (v : Datum) (b : Bool) → bytes_eq p.0 k ≡ b → (p.0 ≡ k → ⊥) → o ≡ Some v → cond b (Some p.1) o ≡ Some v
later_case p o k v true tie apart is = absurd (apart ((bytes_eq-Decides p.0 k).0 tie))
later_case p o k v false tie apart is = is

pub Contains-value_at : (ps : List (List ℕ × Datum)) → AreKeysDistinct ps → (k : List ℕ) (v : Datum) → Contains ps (k, v) → value_at k ps ≡ Some v
Contains-value_at [] distinct k v m = absurd (nowhere (k, v) m)
Contains-value_at (p ∷ ps) distinct k v m =
    ⊎_elim
    (λ is. here_case p (value_at k ps) k v (bytes_eq p.0 k) refl is)
    (λ later. later_case p (value_at k ps) k v (bytes_eq p.0 k) refl (apart_first p.0 (map (λ (q : List ℕ × Datum). q.0) ps) distinct k (mapped (λ (q : List ℕ × Datum). q.0) ps (k, v) later))
    (Contains-value_at ps (apart_later p.0 (map (λ (q : List ℕ × Datum). q.0) ps) distinct) k v later))
    (first_or_later p ps (k, v) m)

-- ---- records

pub record_from-pairs_of : (ps : List (List ℕ × Datum)) → SamePairs (record_from ps) ps
record_from-pairs_of ps = ascending_from-Contains pair_total pair_same ps

-- at each key there is one value
HaveOneValue : List (List ℕ × Datum) → Type 0
HaveOneValue ps = (k : List ℕ) (v w : Datum) → Contains ps (k, v) → Contains ps (k, w) → v ≡ w

one_value : (ps : List (List ℕ × Datum)) → AreKeysDistinct ps → HaveOneValue (record_from ps)
unfolding HaveOneValue
one_value ps distinct k v w m n =
    same_Some v w (sym (Contains-value_at ps distinct k v ((record_from-pairs_of ps (k, v)).0 m)) ∙ Contains-value_at ps distinct k w ((record_from-pairs_of ps (k, w)).0 n))

by_key : (p q : List ℕ × Datum) (o c : Ordering) → text_cmp p.0 q.0 ≡ o → datum_cmp p.1 q.1 ≡ c → ordering_then o c ≡ Less → (p.0 ≡ q.0 → p.1 ≡ q.1) → text_cmp p.0 q.0 ≡ Less
by_key p q Less c e f h same = e
by_key p q Equal c e f h same =
    let value = same (text_same p.0 q.0 e) in
    let tie : datum_cmp p.1 q.1 ≡ Equal = ap (datum_cmp p.1) (sym value) ∙ datum_itself p.1 in
    let less : datum_cmp p.1 q.1 ≡ Less = f ∙ h in
    cc
by_key p q Greater c e f h same = cc

below_all : (p : List ℕ × Datum) (qs : List (List ℕ × Datum)) → ((q : List ℕ × Datum) → Contains qs q → p.0 ≡ q.0 → p.1 ≡ q.1) → AllByRecursion (λ q. pair_cmp p q ≡ Less) qs → AllByRecursion (λ k. text_cmp p.0 k ≡ Less) (map (λ q. q.0) qs)
below_all p [] same all = tt
below_all p (q ∷ qs) same all =
    (by_key p q (text_cmp p.0 q.0) (datum_cmp p.1 q.1) refl refl all.0 (same q (here q qs)), below_all p qs (λ r m. same r (there q qs r m)) all.1)

keys_ascending : (ps : List (List ℕ × Datum)) → HaveOneValue ps → IsStrictlySortedBy pair_cmp ps → AreKeysAscending ps
unfolding HaveOneValue IsStrictlySortedBy
keys_ascending [] one up = tt
keys_ascending (p ∷ ps) one up = (
  below_all p ps (λ q m key. one p.0 p.1 q.1 (here p ps) (subst (Contains (p ∷ ps)) (λ i. (sym key i, q.1)) (there p ps q m))) up.0,
  keys_ascending ps (λ k v w m n. one k v w (there p ps (k, v) m) (there p ps (k, w) n)) up.1,
)

pub record_from-ascending_keys : (ps : List (List ℕ × Datum)) → AreKeysDistinct ps → AreKeysAscending (record_from ps)
record_from-ascending_keys ps distinct = keys_ascending (record_from ps) (one_value ps distinct) (ascending_from-ascending pair_total ps)

pub record_from-itself : (ps : List (List ℕ × Datum)) → AreKeysAscending ps → record_from ps ≡ ps
record_from-itself ps up = sym (record_from-pairs ps ps up (λ p. (λ m. m, λ m. m)))
