-- The join of two types as a relation of three, rule by rule, and its laws.
use Rattle.std.specs.Prelude.{◌≡◌, ◌↔◌, ℕ, Bool, List, Option, Some, None}
use Rattle.std.specs.List.Sorted.{IsStrictlySortedBy}
use Rattle.cedar_ext.specs.declared.extension.ExtensionType.{ExtensionType}
use Rattle.cedar_value.specs.Datum.{Datum}
use Rattle.cedar_value.specs.Order.{text_cmp}
use Rattle.cedar_schema_types.specs.declared.truth.Truth.{Truth}
use Rattle.cedar_schema_types.specs.declared.attribute.Attribute.{Attribute}
use Rattle.cedar_schema_types.specs.Types.{TypeTree, boolean, long, string, entity, set, record_of, extension, Attributes, no_attributes, attribute, names_of}
use Rattle.cedar_schema_types.specs.Lookup.{attribute_at}
use Rattle.cedar_schema_types.specs.Membership.{Member}
use Rattle.cedar_schema_types.specs.Joining.{join_truths, join}

-- Two types join to a third: Booleans of unlike forms to any Boolean, sets by their members, records of the same names
-- and the same requiredness name by name, and else equal types alone (Cedar documentation, strict validation; cedar-spec,
-- Lean: Cedar.Validation, least upper bounds).
mutual
  pub data Join : TypeTree → TypeTree → TypeTree → Type 0 where
    join_boolean : {f g : Truth} → Join (boolean f) (boolean g) (boolean (join_truths f g))
    join_long : Join long long long
    join_string : Join string string string
    join_entity : {n : List ℕ} → Join (entity n) (entity n) (entity n)
    join_set : {t u v : TypeTree} → Join t u v → Join (set t) (set u) (set v)
    join_record : {a b d : Attributes} → JoinAttributes a b d → Join (record_of a) (record_of b) (record_of d)
    join_extension : {t : ExtensionType} → Join (extension t) (extension t) (extension t)

  -- Attributes of the same names and the same requiredness join name by name, in order (Cedar documentation, strict
  -- validation).
  pub data JoinAttributes : Attributes → Attributes → Attributes → Type 0 where
    join_none : JoinAttributes no_attributes no_attributes no_attributes
    join_attribute : {k : List ℕ} {r : Bool} {t u v : TypeTree} {a b d : Attributes} → Join t u v → JoinAttributes a b d → JoinAttributes (attribute k r t a) (attribute k r u b) (attribute k r v d)

-- The function `join` computes the relation (own).
abbrev pub JoinIsComputed : Type 0
JoinIsComputed = (a b d : TypeTree) → Join a b d ↔ (join a b ≡ Some d)

-- What three record types declare at one name: none of them anything, or all of them an attribute, of the same requiredness,
-- with types that join (Cedar documentation, strict validation).
abbrev pub JoinsAt : Option Attribute → Option Attribute → Option Attribute → Type 0
JoinsAt None None None = Unit {0}
JoinsAt (Some x) (Some y) (Some z) = (y.required ≡ x.required) × (z.required ≡ x.required) × Join x.ty y.ty z.ty
JoinsAt _ _ _ = ⊥

-- Record types, whose names ascend, join name by name (Cedar documentation, strict validation).
abbrev pub JoinIsByName : Type 0
JoinIsByName = (a b d : Attributes) → IsStrictlySortedBy text_cmp (names_of a) → IsStrictlySortedBy text_cmp (names_of b) → IsStrictlySortedBy text_cmp (names_of d)
    → Join (record_of a) (record_of b) (record_of d) ↔ ((k : List ℕ) → JoinsAt (attribute_at k a) (attribute_at k b) (attribute_at k d))

-- A value that belongs to one of two types belongs to what they join to (cedar-spec, Lean: Cedar.Thm.Validation, subtyping of a
-- join).
abbrev pub MembersStay : Type 0
MembersStay = (t u v : TypeTree) (x : Datum) → Join t u v → (Member t x → Member v x) × (Member u x → Member v x)
