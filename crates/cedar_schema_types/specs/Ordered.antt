-- The order in which a type has its attributes.
use Rattle.std.specs.Prelude.{◌≡◌, ◌≢◌, ℕ, Bool, List, map, AllPairs}
use Rattle.std.specs.Ordering.{match_ordering}
use Rattle.std.specs.List.Sorted.{IsStrictlySortedBy, IsPermutation}
use Rattle.cedar_value.specs.Order.{text_cmp}
use Rattle.cedar_schema_types.specs.Types.{TypeTree, boolean, long, string, entity, set, record_of, extension, Attributes, no_attributes, attribute, names_of}
use Rattle.cedar_schema_types.specs.TypeKind.{attributes_of}
use Rattle.cedar_schema_types.specs.declared.attribute.Attribute.{Attribute}

-- The attributes of each record in the type, at every depth, ascend strictly by the bytes of their names, so that no name is
-- repeated and no two trees are one type (own; cedar-spec, Lean: Cedar.Validation, well-formed types).
unfoldable mutual
  pub Ascends : TypeTree → Type 0
  Ascends (boolean b) = Unit {0}
  Ascends long = Unit {0}
  Ascends string = Unit {0}
  Ascends (entity n) = Unit {0}
  Ascends (set t) = Ascends t
  Ascends (record_of a) = IsStrictlySortedBy text_cmp (names_of a) × AllAscend a
  Ascends (extension t) = Unit {0}

  -- The types of all attributes ascend so, at every depth (own).
  pub AllAscend : Attributes → Type 0
  AllAscend no_attributes = Unit {0}
  AllAscend (attribute k r t rest) = Ascends t × AllAscend rest

-- The attributes with one more at its place. It replaces one of the same name (own).
abbrev pub with_attribute : List ℕ → Bool → TypeTree → Attributes → Attributes
with_attribute k r t no_attributes = attribute k r t no_attributes
with_attribute k r t (attribute l q u rest) = match_ordering (text_cmp k l) (attribute k r t (attribute l q u rest)) (attribute k r t rest) (attribute l q u (with_attribute k r t rest))

-- The names of the attributes ascend strictly by their bytes (own).
abbrev pub AreNamesAscending : List Attribute → Type 0
AreNamesAscending as' = IsStrictlySortedBy text_cmp (map (λ a. a.name) as')

-- No name is repeated (own).
abbrev pub AreNamesDistinct : List Attribute → Type 0
AreNamesDistinct as' = AllPairs (λ k l. k ≢ l) (map (λ a. a.name) as')

-- The record type has exactly the attributes of the list, put in order (own).
abbrev pub IsRecordOf : List Attribute → Attributes → Type 0
IsRecordOf as' r = (sorted : List Attribute) × IsPermutation as' sorted × AreNamesAscending sorted × (r ≡ attributes_of sorted)
