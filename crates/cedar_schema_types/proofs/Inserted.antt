-- An attribute that goes to its place among attributes that ascend.
use Rattle.std.proofs.Common.{◌≡◌, ℕ, zero, suc, ◌<◌, ◌≤◌, Bool, List, [], ◌∷◌, length, get_or, refl, arith, ap, sym, subst, ◌∙◌, Err, Ok, Result, OnOk, OnErr}
use Rattle.std.proofs.Math.ListN.{set}
use Rattle.std.proofs.lemmas.Cmp.{nat_list_cmp_total}
use Rattle.std.proofs.lemmas.Map.Keys.{sorted_tail}
use Rattle.std.proofs.lemmas.List.Sorted.{searchable_from_sorted}
use Rattle.std.specs.declared.cmp.Ordering.{Ordering}
use Rattle.std.specs.declared.cmp.Ordering.TheVariants.{Less, Equal, Greater}
use Rattle.std.specs.Ordering.{ordering_reverse, match_ordering}
use Rattle.std.specs.List.{AllByRecursion, insert}
use Rattle.std.specs.List.Sorted.{IsStrictlySortedBy, IsBinarySearchResult}
use Rattle.cedar_value.specs.Order.{text_cmp}
use Rattle.cedar_value.specs.Private.Same.{text_same}
use Rattle.cedar_value.proofs.AscendingLists.{less_all}
use Rattle.cedar_value.proofs.ByKeys.{first_below, sorted_keys}
use Rattle.cedar_schema_types.specs.Types.{TypeTree, Attributes, attribute, no_attributes, names_of, record_of}
use Rattle.cedar_schema_types.specs.TypeKind.{attributes_of}
use Rattle.cedar_schema_types.specs.Ordered.{Ascends, AllAscend, AreNamesAscending, with_attribute}
use Rattle.cedar_schema_types.specs.declared.attribute.Attribute.{Attribute}
use Rattle.cedar_schema_types.proofs.Names.{name_of}

flipped : (k l : List ℕ) (o : Ordering) → text_cmp l k ≡ o → text_cmp k l ≡ ordering_reverse o
flipped k l o e = nat_list_cmp_total.antisymm k l ∙ ap ordering_reverse e

-- in place of one of its name
pub set_there : (as' : List Attribute) (a : Attribute) (i : ℕ) → AreNamesAscending as' → i < length as' → ((d : Attribute) → text_cmp (get_or as' i d).name a.name ≡ Equal)
    → with_attribute a.name a.required a.ty (attributes_of as') ≡ attributes_of (set as' i a)
set_there [] a i up lt same = absurd (omega arith)
set_there (c ∷ cs) a zero up lt same =
    let e : text_cmp a.name c.name ≡ Equal = flipped a.name c.name Equal (same c) in
    rw e refl
set_there (c ∷ cs) a (suc i) up lt same =
    let less : text_cmp c.name a.name ≡ Less = first_below name_of c cs i a a.name up (omega arith) (text_same (get_or cs i a).name a.name (same a)) in
    let e : text_cmp a.name c.name ≡ Greater = flipped a.name c.name Less less in
    rw e (ap (attribute c.name c.required c.ty) (set_there cs a i (sorted_tail text_cmp _ _ up) (omega arith) same))

-- in a gap
in_gap : (as' : List Attribute) (a : Attribute) (i : ℕ) → i ≤ length as' → ((j : ℕ) (d : Attribute) → j < length as' → j < i → text_cmp (get_or as' j d).name a.name ≡ Less) → ((j : ℕ) (d : Attribute) → i ≤ j → j < length as' → text_cmp (get_or as' j d).name a.name ≡ Greater)
    → with_attribute a.name a.required a.ty (attributes_of as') ≡ attributes_of (insert as' i a)
in_gap [] a zero le low high = refl
in_gap [] a (suc i) le low high = absurd (omega arith)
in_gap (c ∷ cs) a zero le low high =
    let e : text_cmp a.name c.name ≡ Less = flipped a.name c.name Greater (high 0 c (omega arith) (omega arith)) in
    rw e refl
in_gap (c ∷ cs) a (suc i) le low high =
    let e : text_cmp a.name c.name ≡ Greater = flipped a.name c.name Less (low 0 c (omega arith) (omega arith)) in
    rw e (ap (attribute c.name c.required c.ty) (in_gap cs a i (omega arith) (λ j d lt below. low (suc j) d (omega arith) (omega arith)) (λ j d above lt. high (suc j) d (omega arith) (omega arith))))

pub put_there : (as' : List Attribute) (a : Attribute) (i : ℕ) → AreNamesAscending as' → i ≤ length as' → IsBinarySearchResult (λ b. text_cmp b.name a.name) as' (Err i)
    → with_attribute a.name a.required a.ty (attributes_of as') ≡ attributes_of (insert as' i a)
put_there as' a i up le gap =
    let parts = gap (searchable_from_sorted nat_list_cmp_total (λ b. b.name) as' a.name (sorted_keys name_of as' up)) in
    in_gap as' a i le (λ j d lt below. parts.0 j d (omega arith) below) (λ j d above lt. parts.1 j d above lt)

-- ---- the attributes ascend as before

above : (l k : List ℕ) (r : Bool) (t : TypeTree) (a : Attributes) → text_cmp l k ≡ Less → AllByRecursion (λ x. text_cmp l x ≡ Less) (names_of a) → AllByRecursion (λ x. text_cmp l x ≡ Less) (names_of (with_attribute k r t a))
above l k r t no_attributes h all = (h, tt)
above l k r t (attribute m q u b) h all = at (text_cmp k m) (above l k r t b h all.1)
  where
    at : (o : Ordering) → AllByRecursion (λ x. text_cmp l x ≡ Less) (names_of (with_attribute k r t b))
        → AllByRecursion (λ x. text_cmp l x ≡ Less) (names_of (match_ordering o (attribute k r t (attribute m q u b)) (attribute k r t b) (attribute m q u (with_attribute k r t b))))
    at Less later = (h, all)
    at Equal later = (h, all.1)
    at Greater later = (all.0, later)

names_up : (k : List ℕ) (r : Bool) (t : TypeTree) (a : Attributes) → IsStrictlySortedBy text_cmp (names_of a) → IsStrictlySortedBy text_cmp (names_of (with_attribute k r t a))
unfolding IsStrictlySortedBy
names_up k r t no_attributes up = (tt, tt)
names_up k r t (attribute l q u b) up = at (text_cmp k l) refl (names_up k r t b up.1)
  where
    at : (o : Ordering) → text_cmp k l ≡ o → IsStrictlySortedBy text_cmp (names_of (with_attribute k r t b))
        → IsStrictlySortedBy text_cmp (names_of (match_ordering o (attribute k r t (attribute l q u b)) (attribute k r t b) (attribute l q u (with_attribute k r t b))))
    at Less h later = ((h, less_all nat_list_cmp_total k l (names_of b) h up.0), up)
    at Equal h later = (subst (λ (x : List ℕ). AllByRecursion (λ y. text_cmp x y ≡ Less) (names_of b)) (sym (text_same k l h)) up.0, up.1)
    at Greater h later = (above l k r t b (flipped l k Greater h) up.0, later)

types_up : (k : List ℕ) (r : Bool) (t : TypeTree) (a : Attributes) → Ascends t → AllAscend a → AllAscend (with_attribute k r t a)
unfolding AllAscend
types_up k r t no_attributes h all = (h, tt)
types_up k r t (attribute l q u b) h all = at (text_cmp k l) (types_up k r t b h all.1)
  where
    at : (o : Ordering) → AllAscend (with_attribute k r t b) → AllAscend (match_ordering o (attribute k r t (attribute l q u b)) (attribute k r t b) (attribute l q u (with_attribute k r t b)))
    at Less later = (h, all)
    at Equal later = (h, all.1)
    at Greater later = (all.0, later)

pub one_more : (k : List ℕ) (r : Bool) (t : TypeTree) (a : Attributes) → Ascends t → Ascends (record_of a) → Ascends (record_of (with_attribute k r t a))
unfolding Ascends
one_more k r t a h up = (names_up k r t a up.0, types_up k r t a h up.1)

pub none_yet : Ascends (record_of no_attributes)
unfolding Ascends IsStrictlySortedBy
none_yet = (tt, tt)

-- after an insertion, and after one that was refused
pub still_up : {A B : Type 0} (result : Result A B) (k : List ℕ) (r : Bool) (t : TypeTree) (old new : List Attribute) → OnOk result (attributes_of new ≡ with_attribute k r t (attributes_of old)) → OnErr result (new ≡ old)
    → Ascends t → Ascends (record_of (attributes_of old)) → Ascends (record_of (attributes_of new))
still_up (Ok x) k r t old new added refused h up = subst (λ (a : Attributes). Ascends (record_of a)) (sym added) (one_more k r t (attributes_of old) h up)
still_up (Err e) k r t old new added refused h up = subst (λ (as' : List Attribute). Ascends (record_of (attributes_of as'))) (sym refused) up
