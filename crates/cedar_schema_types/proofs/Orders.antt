-- Attributes whose names ascend.
use Rattle.std.proofs.Common.{◌≡◌, ℕ, List, [], ◌∷◌, ◌++◌, map, take, length, get_or, ◌+◌, ◌<◌, refl, sym, ap, subst}
use Rattle.std.specs.List.Sorted.{IsStrictlySortedBy}
use Rattle.std.proofs.lemmas.List.{take_more}
use Rattle.cedar_value.specs.Order.{text_cmp}
use Rattle.cedar_schema_types.specs.Types.{record_of, no_attributes, names_of}
use Rattle.cedar_schema_types.specs.TypeKind.{attributes_of}
use Rattle.cedar_schema_types.specs.Ordered.{Ascends, AllAscend, AreNamesAscending}
use Rattle.cedar_schema_types.specs.declared.attribute.Attribute.{Attribute}

-- the names of a list, and of the attributes that it denotes
pub names_of-attributes_of : (as' : List Attribute) → names_of (attributes_of as') ≡ map (λ a. a.name) as'
names_of-attributes_of [] = refl
names_of-attributes_of (a ∷ as') = ap (λ (ks : List (List ℕ)). a.name ∷ ks) (names_of-attributes_of as')

pub ascending : (as' : List Attribute) → AreNamesAscending as' → AllAscend (attributes_of as') → Ascends (record_of (attributes_of as'))
unfolding Ascends
ascending as' up all = (subst (λ (ks : List (List ℕ)). IsStrictlySortedBy text_cmp ks) (sym (names_of-attributes_of as')) up, all)

-- one attribute more
pub all_more : (as' : List Attribute) (a : Attribute) → AllAscend (attributes_of as') → Ascends a.ty → AllAscend (attributes_of (as' ++ a ∷ []))
unfolding AllAscend
all_more [] a all up = (up, tt)
all_more (b ∷ as') a all up = (all.0, all_more as' a all.1 up)

pub all_none : AllAscend no_attributes
unfolding AllAscend
all_none = tt

pub all_next : (as' : List Attribute) (i : ℕ) (a : Attribute) → i < length as' → a ≡ get_or as' i a → AllAscend (attributes_of (take i as')) → Ascends a.ty → AllAscend (attributes_of (take (i + 1) as'))
all_next as' i a lt is all up =
    subst (λ (xs : List Attribute). AllAscend (attributes_of xs)) (sym (take_more as' i a lt))
    (all_more (take i as') (get_or as' i a) all (subst (λ (x : Attribute). Ascends x.ty) is up))

-- the names of attributes that ascend
pub names_ascend : (as' : List Attribute) → Ascends (record_of (attributes_of as')) → AreNamesAscending as'
unfolding Ascends
names_ascend as' up = subst (λ (ks : List (List ℕ)). IsStrictlySortedBy text_cmp ks) (names_of-attributes_of as') up.0
