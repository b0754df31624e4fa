-- What a JSON writes as a value of a type: the value, and the faults that are there (Cedar documentation, entities and context
-- in JSON).
use Rattle.std.specs.Prelude.{ℕ, not, ◌==◌, ◌&&◌, Bool, true, false, codes, List, [], ◌∷◌, ◌++◌, Option, Some, None, option_map, option_and_then, unwrap_or, if◌then◌else◌}
use Rattle.std.specs.List.{list_any}
use Rattle.std.specs.Option.{option_or}
use Rattle.std.specs.Str.{bytes_eq}
use Rattle.serde_json.specs.Data.{Num, Data, Items, no_items, item, Members, no_members, member}
use Rattle.serde_json.specs.Find.{get, as_bool, as_number, as_str, as_array, as_object, as_i64}
use Rattle.cedar_ext.specs.declared.extension.ExtensionType.{ExtensionType}
use Rattle.cedar_ext.specs.Extensions.{constructor_name, extension_of}
use Rattle.cedar_value.specs.Datum.{Datum, boolean, long, text, uid, set, record_of, extension, members_of, fields_of}
use Rattle.cedar_value.specs.Sets.{set_from}
use Rattle.cedar_value.specs.declared.uid.Uid.{Uid}
use Rattle.cedar_schema_types.specs.declared.truth.Truth.{Truth}
use Rattle.cedar_schema_types.specs.declared.truth.Truth.TheVariants.{True, False, Any}
use Rattle.cedar_schema_types.specs.Types.{TypeTree, Attributes, no_attributes, attribute, names_of}
use Rattle.cedar_schema_types.specs.Types as kind
use Rattle.cedar_conform_values.specs.declared.conform_fault.ConformFault.{ConformFault}
use Rattle.cedar_conform_values.specs.declared.conform_fault.ConformFault.TheVariants.{WrongType, MissingAttribute, ExtraAttribute, NumberRange}
use Rattle.cedar_conform_values.specs.Faults.{fault_if}
use Rattle.cedar_conform_values.specs.Objects.{size_of, text_at, inside}
use Rattle.cedar_conform_values.specs.Uids.{uid_object}

-- A value, and the faults. Where there is a fault, the value beside it has no meaning (this project).
pub record Read : Type 0 where
  pub value : Datum
  pub faults : List ConformFault

-- A value, and no fault beside it (this project).
abbrev pub fine : Datum → Read
fine v = record { value = v; faults = [] }

-- A fault, with a value beside it that has no meaning (this project).
abbrev pub bad : ConformFault → Read
bad e = record { value = boolean false; faults = e ∷ [] }

-- A required part is read, and the fault is this one where it is absent (this project).
abbrev pub needed : {A : Type 0} → ConformFault → (A → Read) → Option A → Read
needed e f None = bad e
needed e f (Some x) = f x

-- ---- what has no value inside

-- Whether what is known of a Boolean allows it (cedar-spec, Lean: Cedar.Validation.BoolType).
abbrev pub allows : Truth → Bool → Bool
allows True b = b
allows False b = not b
allows Any b = true

-- A Boolean is a JSON true or false, as far as it is allowed; else the fault is 504 (Cedar documentation, entities and context
-- in JSON).
abbrev pub truth_read : Truth → Option Bool → Read
truth_read f o = needed WrongType (λ b. record { value = boolean b; faults = fault_if (not (allows f b)) WrongType }) o

-- A long is a number, else the fault is 504, and a whole one of 64 bits, else the fault is 509 (Cedar documentation, entities and
-- context in JSON: Long).
abbrev pub long_read : Option Num → Read
long_read o = needed WrongType (λ n. needed NumberRange (λ z. fine (long z)) (as_i64 n)) o

-- A string is a JSON string, else the fault is 504 (Cedar documentation, entities and context in JSON: String).
abbrev pub text_read : Option (List ℕ) → Read
text_read o = needed WrongType (λ s. fine (text s)) o

-- A uid is one of the type, else the fault is 504; its entity need not be in any store (Cedar documentation, entities and
-- context in JSON: Entity).
abbrev pub entity_read : List ℕ → Option Uid → Read
entity_read n o = needed WrongType (λ (u : Uid). record { value = uid u; faults = fault_if (not (bytes_eq u.ty n)) WrongType }) o

-- Whether the string names the constructor of the type (Cedar documentation, entities and context in JSON: Extension).
abbrev pub is_constructor_of : ExtensionType → Option (List ℕ) → Bool
is_constructor_of t o = unwrap_or (option_map (λ s. bytes_eq s (constructor_name t)) o) false

-- The string of an object of exactly `fn`, which names the constructor of the type, and `arg`, a string (Cedar documentation,
-- entities and context in JSON: Extension).
abbrev pub call_text : ExtensionType → Data → Option (List ℕ)
call_text t d = if size_of d == 2 && is_constructor_of t (text_at (codes "fn") d) then text_at (codes "arg") d else None

-- The string of a value of the type, written as a string, as a call, or as one that is alone at `__extn` (Cedar documentation, entities
-- and context in JSON: Extension).
abbrev pub extension_text : ExtensionType → Data → Option (List ℕ)
extension_text t d = option_or (as_str d) (call_text t (inside (codes "__extn") d))

-- A value of an extension type is a string that writes one, else the fault is 504 (Cedar language reference, functions).
abbrev pub extension_read : ExtensionType → Option (List ℕ) → Read
extension_read t o = needed WrongType (λ e. fine (extension e)) (option_and_then (extension_of t) o)

-- ---- sets

-- The values of a list, and the faults of all (this project).
pub record ValuesRead : Type 0 where
  pub values : List Datum
  pub faults : List ConformFault

-- Each of a list's items is read (Cedar documentation, entities and context in JSON: Set).
unfoldable pub all_read : (Data → Read) → Items → ValuesRead
all_read f no_items = record { values = []; faults = [] }
all_read f (item d ds) = record { values = (f d).value ∷ (all_read f ds).values; faults = (f d).faults ++ (all_read f ds).faults }

-- A set is a list, in which repeats are one member; else the fault is 504 (Cedar documentation, entities and context in JSON:
-- Set).
abbrev pub set_read : (Data → Read) → Option Items → Read
set_read f o = needed WrongType (λ ds. record { value = set (members_of (set_from (all_read f ds).values)); faults = (all_read f ds).faults }) o

-- ---- records

-- The keys of a record with their values, and the faults of all (this project).
pub record FieldsRead : Type 0 where
  pub pairs : List (List ℕ × Datum)
  pub faults : List ConformFault

-- What one attribute's key has: its value, or nothing, with the fault 505 where it is required (Cedar documentation, entities
-- and context in JSON: Record).
abbrev pub field_read : List ℕ → Bool → Option Read → FieldsRead
field_read k required None = record { pairs = []; faults = fault_if required MissingAttribute }
field_read k required (Some r) = record { pairs = (k, r.value) ∷ []; faults = r.faults }

-- One attribute before the others (this project).
abbrev pub before : FieldsRead → FieldsRead → FieldsRead
before one rest = record { pairs = one.pairs ++ rest.pairs; faults = one.faults ++ rest.faults }

-- Whether the key is one of the names (Cedar documentation, JSON schema format: Record).
abbrev pub is_declared : List (List ℕ) → List ℕ → Bool
is_declared names k = list_any (λ n. bytes_eq n k) names

-- The fault 506 for each key that is not declared (Cedar documentation, entities and context in JSON: Record).
abbrev pub extra_faults : List (List ℕ) → Members → List ConformFault
extra_faults names no_members = []
extra_faults names (member k d ms) = fault_if (not (is_declared names k)) ExtraAttribute ++ extra_faults names ms

-- A record is an object, with its attributes and no other keys; else the fault is 504 (Cedar documentation, entities and context
-- in JSON: Record).
abbrev pub record_read : List (List ℕ) → FieldsRead → Option Members → Read
record_read names r o = needed WrongType (λ ms. record { value = record_of (fields_of r.pairs); faults = extra_faults names ms ++ r.faults }) o

-- ---- all levels

-- The value of the type that a JSON writes, and the faults of a JSON that writes none: the definitions above say what each type
-- takes (Cedar documentation, entities and context in JSON).
unfoldable mutual
  pub value_read : TypeTree → Data → Read
  value_read (kind.boolean f) d = truth_read f (as_bool d)
  value_read kind.long d = long_read (as_number d)
  value_read kind.string d = text_read (as_str d)
  value_read (kind.entity n) d = entity_read n (uid_object d)
  value_read (kind.set t) d = set_read (value_read t) (as_array d)
  value_read (kind.record_of a) d = record_read (names_of a) (fields_read a d) (as_object d)
  value_read (kind.extension t) d = extension_read t (extension_text t d)

  -- Attribute by attribute, what the object has at its key (Cedar documentation, entities and context in JSON: Record).
  pub fields_read : Attributes → Data → FieldsRead
  fields_read no_attributes d = record { pairs = []; faults = [] }
  fields_read (attribute k r t a) d = before (field_read k r (option_map (value_read t) (get k d))) (fields_read a d)
