-- Types of the strict validator (Cedar documentation, JSON schema format; cedar-spec, Lean: Cedar.Validation.Types).
use Rattle.std.specs.Prelude.{ℕ, Bool, true, false, List, [], ◌∷◌}
use Rattle.cedar_ext.specs.declared.extension.ExtensionType.{ExtensionType}
use Rattle.cedar_schema_types.specs.declared.truth.Truth.{Truth}

-- A type: Booleans and what is known of them, whole numbers, strings, the entities of a type given by its name, sets of a type,
-- records given by their attributes, extension types (Cedar documentation, JSON schema format: attribute types).
mutual
  pub data TypeTree : Type 0 where
    boolean : Truth → TypeTree
    long : TypeTree
    string : TypeTree
    entity : List ℕ → TypeTree
    set : TypeTree → TypeTree
    record_of : Attributes → TypeTree
    extension : ExtensionType → TypeTree

  -- The attributes of a record, one after another: for each its name, whether it is required, and its type (Cedar
  -- documentation, JSON schema format: Record).
  pub data Attributes : Type 0 where
    no_attributes : Attributes
    attribute : List ℕ → Bool → TypeTree → Attributes → Attributes

-- The names of the attributes, in order (own).
abbrev pub names_of : Attributes → List (List ℕ)
names_of no_attributes = []
names_of (attribute k r t rest) = k ∷ names_of rest

-- Whether the type is one of records (Cedar documentation, JSON schema format: attribute types).
abbrev pub is_record : TypeTree → Bool
is_record (record_of a) = true
is_record _ = false
