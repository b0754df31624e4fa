-- Where as many attributes are read as there are members, each key is declared.
use Rattle.std.proofs.Common.{◌≡◌, ◌≤◌, ◌+◌, ℕ, suc, Bool, true, false, ◌||◌, List, [], ◌∷◌, ◌++◌, length, Option, Some, None, option_map, Ordering, Less, Equal, Greater, nat_cmp, is_eq, refl, sym, ap, ◌∙◌, subst, arith, if◌then◌else◌}
use Rattle.std.specs.List.{AllByRecursion}
use Rattle.std.specs.List.Sorted.{IsStrictlySortedBy}
use Rattle.std.specs.Str.{bytes_eq}
use Rattle.std.specs.Ordering.{match_ordering}
use Rattle.std.specs.Cmp.Lexicographic.{slice_cmp}
use Rattle.std.proofs.lemmas.Map.Text.{is_eq-slice_cmp}
use Rattle.std.proofs.lemmas.Slice.Eq.{bytes_eq-Decides}
use Rattle.serde_json.specs.Data.{Data, object, Members, no_members, member, put}
use Rattle.serde_json.specs.Events.{members_len}
use Rattle.serde_json.specs.Find.{get_member}
use Rattle.base_json.specs.LentObjects.{part_view, put_all}
use Rattle.base_json.specs.declared.lent_object.LentMember.{LentMember}
use Rattle.cedar_value.specs.Order.{text_cmp}
use Rattle.cedar_schema_types.specs.Ordered.{AreNamesAscending}
use Rattle.cedar_schema_types.specs.TypeKind.{attributes_of}
use Rattle.cedar_schema_types.specs.Types.{Attributes, no_attributes, attribute, names_of}
use Rattle.cedar_schema_types.specs.declared.attribute.Attribute.{Attribute}
use Rattle.cedar_conform_values.specs.Objects.{are_only}
use Rattle.cedar_conform_values.specs.Values.{Read, extra_faults, field_read, fields_read, is_declared, value_read}
use Rattle.cedar_conform_values.proofs.FieldLemmas.{Pair, names_of-attributes_of}
use Rattle.cedar_conform_values.proofs.KeyLemmas.{none_extra}
use Rattle.cedar_conform_values.proofs.MemberTold.{unlike, up_first, up_rest}

-- ---- how many members have keys that are declared

abbrev tally : Bool → ℕ → ℕ
tally true n = suc n
tally false n = n

abbrev count : List (List ℕ) → Members → ℕ
count names no_members = 0
count names (member k d ms) = tally (is_declared names k) (count names ms)

tally_le : (b : Bool) (n m : ℕ) → n ≤ m → tally b n ≤ suc m
tally_le true n m h = omega arith
tally_le false n m h = omega arith

at_most : (names : List (List ℕ)) (ms : Members) → count names ms ≤ members_len ms
at_most names no_members = omega arith
at_most names (member k d ms) = tally_le (is_declared names k) _ _ (at_most names ms)

all_at : (b : Bool) (n m : ℕ) (rest : Bool) → n ≤ m → (n ≡ m → rest ≡ true) → tally b n ≡ suc m → (if b then rest else false) ≡ true
all_at true n m rest h later e = later (omega arith)
all_at false n m rest h later e = let never : ⊥ = omega arith in absurd never

all_counted : (names : List (List ℕ)) (ms : Members) → count names ms ≡ members_len ms → are_only (is_declared names) ms ≡ true
all_counted names no_members e = refl
all_counted names (member k d ms) e = all_at (is_declared names k) (count names ms) (members_len ms) (are_only (is_declared names) ms) (at_most names ms) (all_counted names ms) e

-- ---- one name more

more_at : (a b : Bool) (x y : ℕ) → x ≤ y → tally b x ≤ tally (a || b) y
more_at true true x y h = omega arith
more_at true false x y h = omega arith
more_at false true x y h = omega arith
more_at false false x y h = h

further_at : (a b : Bool) (x y : ℕ) → x + 1 ≤ y → tally b x + 1 ≤ tally (a || b) y
further_at true true x y h = omega arith
further_at true false x y h = omega arith
further_at false true x y h = omega arith
further_at false false x y h = h

here_at : (a b : Bool) (x y : ℕ) → a ≡ true → b ≡ false → x ≤ y → tally b x + 1 ≤ tally (a || b) y
here_at true true x y e f h = cc
here_at true false x y e f h = omega arith
here_at false b x y e f h = cc

module _ (n : List ℕ) (rest : List (List ℕ)) where
  more : (ms : Members) → count rest ms ≤ count (n ∷ rest) ms
  more no_members = omega arith
  more (member k d ms) = more_at (bytes_eq n k) (is_declared rest k) (count rest ms) (count (n ∷ rest) ms) (more ms)

  module _ (apart : is_declared rest n ≡ false) where
    one_at : (o : Ordering) (l : List ℕ) (x : Data) (ms : Members) (d : Data) → slice_cmp nat_cmp n l ≡ o → (get_member n ms ≡ Some d → count rest ms + 1 ≤ count (n ∷ rest) ms)
        → match_ordering o (get_member n ms) (Some x) (get_member n ms) ≡ Some d → count rest (member l x ms) + 1 ≤ count (n ∷ rest) (member l x ms)
    one_at Less l x ms d is later e = further_at (bytes_eq n l) (is_declared rest l) (count rest ms) (count (n ∷ rest) ms) (later e)
    one_at Equal l x ms d is later e =
        let same = sym (is_eq-slice_cmp n l) ∙ ap is_eq is in
        let equal : n ≡ l = (bytes_eq-Decides n l).0 same in
        here_at (bytes_eq n l) (is_declared rest l) (count rest ms) (count (n ∷ rest) ms) same (subst (λ (k : List ℕ). is_declared rest k ≡ false) equal apart) (more ms)
    one_at Greater l x ms d is later e = further_at (bytes_eq n l) (is_declared rest l) (count rest ms) (count (n ∷ rest) ms) (later e)

    one_more : (ms : Members) (d : Data) → get_member n ms ≡ Some d → count rest ms + 1 ≤ count (n ∷ rest) ms
    one_more no_members d e = cc
    one_more (member l x ms) d e = one_at _ l x ms d refl (one_more ms d) e

-- ---- as many as attributes that are read

not_among : (k : List ℕ) (names : List (List ℕ)) → AllByRecursion (λ x. text_cmp k x ≡ Less) names → is_declared names k ≡ false
not_among k [] below = refl
not_among k (n ∷ names) below = rw (unlike k n below.0) (not_among k names below.1)

fewer_at : (k : List ℕ) (r : Bool) (f : Data → Read) (names : List (List ℕ)) (rest : List Pair) (ms : Members) → is_declared names k ≡ false → length rest ≤ count names ms
    → (o : Option Data) → get_member k ms ≡ o → length ((field_read k r (option_map f o)).pairs ++ rest) ≤ count (k ∷ names) ms
fewer_at k r f names rest ms apart h None e = let some = more k names ms in omega arith
fewer_at k r f names rest ms apart h (Some d) e = let some = one_more k names apart ms d e in omega arith

fewer : (a : Attributes) (ms : Members) → IsStrictlySortedBy text_cmp (names_of a) → length (fields_read a (object ms)).pairs ≤ count (names_of a) ms
unfolding fields_read
fewer no_attributes ms up = omega arith
fewer (attribute k r t a) ms up =
    fewer_at k r (value_read t) (names_of a) (fields_read a (object ms)).pairs ms (not_among k (names_of a) (up_first k (names_of a) up)) (fewer a ms (up_rest k (names_of a) up)) (get_member k ms) refl

-- ---- no more than members

len_at : (o : Ordering) (k l : List ℕ) (d e : Data) (ms : Members) → members_len (put k d ms) ≤ suc (members_len ms)
    → members_len (match_ordering o (member k d (member l e ms)) (member l d ms) (member l e (put k d ms))) ≤ suc (suc (members_len ms))
len_at Less k l d e ms later = omega arith
len_at Equal k l d e ms later = omega arith
len_at Greater k l d e ms later = omega arith

len_put : (k : List ℕ) (d : Data) (ms : Members) → members_len (put k d ms) ≤ suc (members_len ms)
len_put k d no_members = omega arith
len_put k d (member l e ms) = len_at (slice_cmp nat_cmp k l) k l d e ms (len_put k d ms)

len_put_all : (ms : List LentMember) (old : Members) → members_len (put_all ms old) ≤ length ms + members_len old
len_put_all [] old = omega arith
len_put_all (m ∷ ms) old =
    let one = len_put m.key.now (part_view m.value) old in
    let rest = len_put_all ms (put m.key.now (part_view m.value) old) in
    omega arith

-- ---- so no key is left

pub as_many : (xs : List Attribute) (ms : List LentMember) (ps : List Pair) → AreNamesAscending xs → ps ≡ (fields_read (attributes_of xs) (object (put_all ms no_members))).pairs → length ps ≡ length ms
    → extra_faults (names_of (attributes_of xs)) (put_all ms no_members) ≡ []
as_many xs ms ps up is same =
    let all = put_all ms no_members in
    let names = names_of (attributes_of xs) in
    let read = ap (λ (qs : List Pair). length qs) is in
    let some = fewer (attributes_of xs) all (subst (IsStrictlySortedBy text_cmp) (names_of-attributes_of xs) up) in
    let most = at_most names all in
    let there = len_put_all ms no_members in
    none_extra names all (all_counted names all (omega arith))
