-- Attributes that ascend by their names: what a search finds among them.
use Rattle.std.proofs.Common.{◌≡◌, ℕ, ◌<◌, List, length, get_or, refl, Some, None, Err}
use Rattle.std.specs.declared.cmp.Ordering.TheVariants.{Equal}
use Rattle.std.specs.List.Sorted.{IsBinarySearchResult}
use Rattle.cedar_value.specs.Order.{text_cmp}
use Rattle.cedar_value.proofs.ByKeys.{look-place, look-gap}
use Rattle.cedar_schema_types.specs.Lookup.{attribute_at}
use Rattle.cedar_schema_types.specs.Ordered.{AreNamesAscending}
use Rattle.cedar_schema_types.specs.TypeKind.{attributes_of}
use Rattle.cedar_schema_types.specs.declared.attribute.Attribute.{Attribute}

abbrev pub name_of : Attribute → List ℕ
name_of a = a.name

-- the attribute of a name that is at place i
pub attribute_at-place : (as' : List Attribute) (k : List ℕ) (i : ℕ) (a : Attribute) → AreNamesAscending as' → i < length as' → a ≡ get_or as' i a → text_cmp a.name k ≡ Equal → attribute_at k (attributes_of as') ≡ Some a
attribute_at-place = look-place name_of (λ a. a) (λ k as'. attribute_at k (attributes_of as')) (λ k. refl) (λ k a as'. refl)

-- what a binary search tells of a name that it doesn't find
pub attribute_at-gap : (as' : List Attribute) (k : List ℕ) (i : ℕ) → AreNamesAscending as' → IsBinarySearchResult (λ a. text_cmp a.name k) as' (Err i) → attribute_at k (attributes_of as') ≡ None
attribute_at-gap = look-gap name_of (λ a. a) (λ k as'. attribute_at k (attributes_of as')) (λ k. refl) (λ k a as'. refl)
