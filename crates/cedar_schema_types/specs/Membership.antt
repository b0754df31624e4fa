-- Which values belong to a type.
use Rattle.std.specs.Prelude.{◌≡◌, ℕ, Bool, true, false, List, Option, Some, None}
use Rattle.std.specs.List.{AllByRecursion}
use Rattle.std.specs.Str.{bytes_eq}
use Rattle.cedar_ext.specs.declared.extension.ExtensionType.{ExtensionType}
use Rattle.cedar_ext.specs.Extensions.{type_of}
use Rattle.cedar_value.specs.Datum.{Datum, boolean, long, text, uid, set, record_of, extension, list_of, pairs_of}
use Rattle.cedar_value.specs.Records.{value_at}
use Rattle.cedar_schema_types.specs.declared.truth.Truth.{Truth}
use Rattle.cedar_schema_types.specs.declared.truth.Truth.TheVariants.{True, False, Any}
use Rattle.cedar_schema_types.specs.Types.{TypeTree, Attributes, no_attributes, attribute}
use Rattle.cedar_schema_types.specs.Types as kind

-- What is known of one Boolean (cedar-spec, Lean: Cedar.Validation.BoolType).
abbrev pub known : Bool → Truth
known true = True
known false = False

-- Known true is true alone, known false is false alone, and any is both (cedar-spec, Lean: Cedar.Validation,
-- InstanceOfBoolType).
abbrev pub HasTruth : Truth → Bool → Type 0
HasTruth True b = b ≡ true
HasTruth False b = b ≡ false
HasTruth Any b = Unit {0}

-- The value is a Boolean with P (cedar-spec, Lean: Cedar.Validation, instances of types).
abbrev pub IsBoolean : (Bool → Type 0) → Datum → Type 0
IsBoolean P (boolean b) = P b
IsBoolean P _ = ⊥

-- The value is a whole number (cedar-spec, Lean: Cedar.Validation, instances of types).
abbrev pub IsLong : Datum → Type 0
IsLong (long n) = Unit {0}
IsLong _ = ⊥

-- The value is a string (cedar-spec, Lean: Cedar.Validation, instances of types).
abbrev pub IsText : Datum → Type 0
IsText (text s) = Unit {0}
IsText _ = ⊥

-- The value is of that extension type (cedar-spec, Lean: Cedar.Validation, InstanceOfExtType).
abbrev pub HasExtensionType : ExtensionType → Datum → Type 0
HasExtensionType t (extension e) = type_of e ≡ t
HasExtensionType t _ = ⊥

-- The value is a uid of that entity type, whether or not a world has the entity (cedar-spec, Lean: Cedar.Validation,
-- InstanceOfEntityType).
abbrev pub IsEntity : List ℕ → Datum → Type 0
IsEntity n (uid u) = u.ty ≡ n
IsEntity n _ = ⊥

-- The value is a set, each of whose members has P (cedar-spec, Lean: Cedar.Validation, instances of types).
abbrev pub IsSetOf : (Datum → Type 0) → Datum → Type 0
IsSetOf P (set ms) = AllByRecursion P (list_of ms)
IsSetOf P _ = ⊥

-- The value is a record, and P holds of each key with what the record has there (cedar-spec, Lean: Cedar.Validation,
-- instances of types).
abbrev pub IsRecord : (List ℕ → Option Datum → Type 0) → Datum → Type 0
IsRecord P (record_of fs) = (k : List ℕ) → P k (value_at k (pairs_of fs))
IsRecord P _ = ⊥

-- What may be at an attribute: a value with P, or nothing where it is not required (Cedar documentation, JSON schema format:
-- required).
abbrev pub MayStand : Bool → (Datum → Type 0) → Option Datum → Type 0
MayStand required P (Some v) = P v
MayStand required P None = required ≡ false

-- There is no value (own).
abbrev pub IsAbsent : Option Datum → Type 0
IsAbsent None = Unit {0}
IsAbsent (Some v) = ⊥

-- The one statement or the other (own).
abbrev pub Choose : Bool → Type 0 → Type 0 → Type 0
Choose true A B = A
Choose false A B = B

-- The value belongs to the type: a Boolean to what is known of it, a uid to its entity type, a set where all members belong to
-- the type of members, a record where each key has what it may have, a value of an extension type to its type (cedar-spec,
-- Lean: Cedar.Validation, instances of types).
abbrev mutual
  pub Member : TypeTree → Datum → Type 0
  Member (kind.boolean f) v = IsBoolean (HasTruth f) v
  Member kind.long v = IsLong v
  Member kind.string v = IsText v
  Member (kind.entity n) v = IsEntity n v
  Member (kind.set t) v = IsSetOf (Member t) v
  Member (kind.record_of a) v = IsRecord (At a) v
  Member (kind.extension t) v = HasExtensionType t v

  -- what a key may have: each required key, each declared key in its type, and no other key (cedar-spec, Lean:
  -- Cedar.Validation, instances of types)
  pub At : Attributes → List ℕ → Option Datum → Type 0
  At no_attributes k o = IsAbsent o
  At (attribute l r t a) k o = Choose (bytes_eq l k) (MayStand r (Member t) o) (At a k o)
