-- What the JSON of a type writes: its form, and the faults that are there (Cedar documentation, JSON schema format: attribute
-- types).
use Rattle.std.specs.Prelude.{unwrap_or, ◌||◌, ℕ, Bool, true, false, bytes_eq, codes, List, [], ◌∷◌, ◌++◌, Option, Some, None, option_map, option_and_then, if◌then◌else◌}
use Rattle.std.specs.Ordering.{nat_cmp, match_ordering}
use Rattle.std.specs.Cmp.Lexicographic.{slice_cmp}
use Rattle.serde_json.specs.Data.{Data, boolean, object, Members, no_members, member}
use Rattle.serde_json.specs.Find.{get, as_str, as_object}
use Rattle.cedar_ext.specs.Extensions.{type_in}
use Rattle.cedar_ext.specs.declared.extension.ExtensionType.TheVariants as type
use Rattle.cedar_ext.specs.declared.language.Language.{Language}
use Rattle.cedar_ext.specs.declared.language.Language.TheVariants.{Profile, Cedar4}
use Rattle.cedar_schema_json.specs.declared.schema_fault.SchemaFault.{SchemaFault}
use Rattle.cedar_schema_json.specs.declared.schema_fault.SchemaFault.TheVariants.{Shape, UnknownType, OpenRecord}
use Rattle.cedar_schema_json.specs.declared.form.kind.Kind.{Kind}
use Rattle.cedar_schema_json.specs.declared.form.kind.Kind.TheVariants.{Boolean, Long, Text, Set, Record, Entity, Extension, EntityOrCommon, Named}
use Rattle.cedar_schema_json.specs.declared.form.position.Position.{Position}
use Rattle.cedar_schema_json.specs.declared.form.position.Position.TheVariants.{Inner, CommonType, Attribute}
use Rattle.cedar_schema_json.specs.Annotations.{is_annotation}
use Rattle.cedar_schema_json.specs.Naming.{Declared, place_of, or_else, whole_name, resolved, text_faults, name_faults}
use Rattle.cedar_schema_json.specs.Forms.{FormTree, no_form, boolean_form, long_form, string_form, extension_form, entity_form, set_form, record_form, common_form, FormRows, no_form_rows, form_row}

-- What the JSON of a type writes: its form, and the faults that are there (Cedar documentation, JSON schema format: attribute
-- types).
pub record Read : Type 0 where
  pub form : FormTree
  pub faults : List SchemaFault

-- What the JSON of attributes writes: their rows, and the faults that are there (Cedar documentation, JSON schema format:
-- Record).
pub record RowsRead : Type 0 where
  pub rows : FormRows
  pub faults : List SchemaFault

-- Where a type is written: the language of the schema, its namespace, and the names that are declared in the schema (Cedar
-- documentation, JSON schema format: namespaces; own).
pub record Scope : Type 0 where
  pub language : Language
  pub namespace : List ℕ
  pub entities : List (List ℕ)
  pub commons : List (List ℕ)

-- A form without faults (own).
abbrev pub fine : FormTree → Read
fine f = record { form = f; faults = [] }

-- No form, and a fault (own).
abbrev pub bad : SchemaFault → Read
bad e = record { form = no_form; faults = e ∷ [] }

-- What is read of an object, with the faults of the object itself before those inside it (own).
abbrev pub with_faults : List SchemaFault → Read → Read
with_faults es r = record { form = r.form; faults = es ++ r.faults }

-- ---- one level

-- The kind that the key `type` names in each language: that of a key word, or else of the name of a type (Cedar documentation,
-- JSON schema format: attribute types).
unfoldable pub kind_named : List ℕ → Kind
kind_named s =
    if bytes_eq s (codes "Boolean") then Boolean else (if bytes_eq s (codes "Long") then Long else (
    if bytes_eq s (codes "String") then Text else (if bytes_eq s (codes "Set") then Set else (
    if bytes_eq s (codes "Record") then Record else (if bytes_eq s (codes "Entity") then Entity else (
    if bytes_eq s (codes "Extension") then Extension else Named))))))

-- The kind that the key `type` names: Cedar 4 has one more key word (Cedar documentation, JSON schema format: EntityOrCommon).
unfoldable pub kind_in : Language → List ℕ → Kind
kind_in Profile s = kind_named s
kind_in Cedar4 s = if bytes_eq s (codes "EntityOrCommon") then EntityOrCommon else kind_named s

-- Which keys a type of a kind may have (Cedar documentation, JSON schema format: attribute types).
unfoldable pub allowed : Kind → List ℕ → Bool
allowed Set k = bytes_eq k (codes "type") || bytes_eq k (codes "element")
allowed Record k = bytes_eq k (codes "type") || bytes_eq k (codes "attributes") || bytes_eq k (codes "additionalAttributes")
allowed Entity k = bytes_eq k (codes "type") || bytes_eq k (codes "name")
allowed Extension k = bytes_eq k (codes "type") || bytes_eq k (codes "name")
allowed EntityOrCommon k = bytes_eq k (codes "type") || bytes_eq k (codes "name")
allowed _ k = bytes_eq k (codes "type")

-- Which keys a type may have where it is written, beside those of its kind (Cedar documentation, JSON schema format: Record,
-- annotations).
unfoldable pub written_beside : Language → Position → List ℕ → Data → Bool
written_beside language Inner k d = false
written_beside language CommonType k d = is_annotation language k d
written_beside language Attribute k d = bytes_eq k (codes "required") || is_annotation language k d

-- Which keys, with which values, a type of a kind may have where it is written (Cedar documentation, JSON schema format: attribute
-- types).
abbrev pub may_have : Language → Kind → Position → List ℕ → Data → Bool
may_have language kind position k d = allowed kind k || written_beside language position k d

-- A fault, 302, for each key that may not be there, or not with its value (Cedar documentation, JSON schema format).
abbrev pub key_faults : (List ℕ → Data → Bool) → Members → List SchemaFault
key_faults may no_members = []
key_faults may (member k d ms) = (if may k d then [] else Shape ∷ []) ++ key_faults may ms

-- What a name gives: the form that it denotes, or none where it is not declared (Cedar documentation, JSON schema format:
-- namespaces).
abbrev pub form_named : (Declared → FormTree) → List (List ℕ) → List ℕ → List ℕ → Read
form_named make names namespace s = record { form = unwrap_or (option_map make (resolved names namespace s)) no_form; faults = name_faults names namespace s }

-- The string at a key (own).
abbrev pub text_at : List ℕ → Data → Option (List ℕ)
text_at k d = option_and_then as_str (get k d)

-- What is read of a part that is required: without it there is a fault, 302 (Cedar documentation, JSON schema format).
abbrev pub needed : {A : Type 0} → (A → Read) → Option A → Read
needed f o = unwrap_or (option_map f o) (bad Shape)

-- A declared entity type (Cedar documentation, JSON schema format: Entity).
abbrev pub entity_read : Scope → Option (List ℕ) → Read
entity_read sc o = needed (form_named (λ n. entity_form n.0) sc.entities sc.namespace) o

-- The extension type of this name in the language; 303 where there is none (Cedar documentation, JSON schema format: Extension).
abbrev pub extension_named : Language → List ℕ → Read
extension_named language s = unwrap_or (option_map (λ t. fine (extension_form t)) (type_in language s)) (record { form = no_form; faults = text_faults s ++ UnknownType ∷ [] })

-- A declared common type (Cedar documentation, JSON schema format: commonTypes).
abbrev pub common_read : Scope → List ℕ → Read
common_read sc s = form_named (λ n. common_form n.1) sc.commons sc.namespace s

-- ---- names of any type

-- Whether a text is the name of a built-in type, by itself or in the namespace `__cedar` (Cedar RFC 24).
abbrev pub is_called : List ℕ → List ℕ → Bool
is_called s name = bytes_eq s name || bytes_eq s (codes "__cedar::" ++ name)

-- The built-in type of a name (Cedar RFC 24).
unfoldable pub built_in : List ℕ → Option FormTree
built_in s =
    if is_called s (codes "Long") then Some long_form else (if is_called s (codes "String") then Some string_form else (
    if is_called s (codes "Bool") then Some boolean_form else (if is_called s (codes "Boolean") then Some boolean_form else (
    if is_called s (codes "decimal") then Some (extension_form type.Decimal) else (if is_called s (codes "ipaddr") then Some (extension_form type.Ip) else (
    if is_called s (codes "datetime") then Some (extension_form type.Datetime) else (if is_called s (codes "duration") then Some (extension_form type.Duration) else None)))))))

-- The declared type of a full name: a common type, or else an entity type (Cedar documentation, JSON schema format:
-- EntityOrCommon).
abbrev pub declared_type : Scope → List ℕ → Option FormTree
declared_type sc name = or_else (option_map common_form (place_of sc.commons name)) (option_map (λ _. entity_form name) (place_of sc.entities name))

-- The type of a name: one of its namespace, or else of the empty one, or else a built-in one (Cedar RFC 24).
unfoldable pub type_called : Scope → List ℕ → Option FormTree
type_called sc s = or_else (declared_type sc (whole_name sc.namespace s)) (or_else (declared_type sc s) (built_in s))

-- A common type, an entity type or a built-in type; 303 where there is none (Cedar documentation, JSON schema format:
-- EntityOrCommon).
abbrev pub either_read : Scope → List ℕ → Read
either_read sc s = unwrap_or (option_map fine (type_called sc s)) (record { form = no_form; faults = text_faults s ++ UnknownType ∷ [] })

-- What a name at the key `type` gives: in the profile a common type, in Cedar 4 any type (Cedar documentation, JSON schema format:
-- commonTypes, EntityOrCommon; own).
abbrev pub named_read : Language → Scope → List ℕ → Read
named_read Profile sc s = common_read sc s
named_read Cedar4 sc s = either_read sc s

-- The type of sets of what is read (Cedar documentation, JSON schema format: Set).
abbrev pub set_of : Read → Read
set_of r = record { form = set_form r.form; faults = r.faults }

-- `additionalAttributes` may only be false: true is 307, another value 302 (Cedar documentation, JSON schema format: Record).
abbrev pub closed_faults : Option Data → List SchemaFault
closed_faults None = []
closed_faults (Some (boolean false)) = []
closed_faults (Some (boolean true)) = OpenRecord ∷ []
closed_faults (Some _) = Shape ∷ []

-- The type of records of what is read (Cedar documentation, JSON schema format: Record).
abbrev pub record_of : RowsRead → Read
record_of r = record { form = record_form r.rows; faults = r.faults }

-- No attributes (own).
abbrev pub no_rows_read : RowsRead
no_rows_read = record { rows = no_form_rows; faults = [] }

-- What the JSON of a type of a kind writes, from what its element and its attributes write; no attributes are the empty object
-- (Cedar documentation, JSON schema format: attribute types; own).
abbrev pub of_kind : Scope → Data → List ℕ → Kind → Option Read → Option RowsRead → Read
of_kind sc d s Boolean el rs = fine boolean_form
of_kind sc d s Long el rs = fine long_form
of_kind sc d s Text el rs = fine string_form
of_kind sc d s Set el rs = needed set_of el
of_kind sc d s Record el rs = with_faults (closed_faults (get (codes "additionalAttributes") d)) (record_of (unwrap_or rs no_rows_read))
of_kind sc d s Entity el rs = entity_read sc (text_at (codes "name") d)
of_kind sc d s Extension el rs = needed (extension_named sc.language) (text_at (codes "name") d)
of_kind sc d s EntityOrCommon el rs = needed (either_read sc) (text_at (codes "name") d)
of_kind sc d s Named el rs = named_read sc.language sc s

-- The faults of the keys of an object (Cedar documentation, JSON schema format).
abbrev pub unknown_keys : (List ℕ → Data → Bool) → Data → List SchemaFault
unknown_keys may d = unwrap_or (option_map (key_faults may) (as_object d)) []

-- What an object writes as a type. One without a string at `type` is 302 (Cedar documentation, JSON schema format: attribute
-- types).
abbrev pub of_type : Scope → Position → Data → Option Read → Option RowsRead → Option (List ℕ) → Read
of_type sc position d el rs None = bad Shape
of_type sc position d el rs (Some s) = with_faults (unknown_keys (may_have sc.language (kind_in sc.language s) position) d) (of_kind sc d s (kind_in sc.language s) el rs)

-- Whether the attribute is required, which is the default (Cedar documentation, JSON schema format: Record).
abbrev pub is_required : Option Data → Bool
is_required (Some (boolean false)) = false
is_required _ = true

-- The fault of `required`, which has to be a Boolean where it is there (Cedar documentation, JSON schema format: Record).
abbrev pub required_faults : Option Data → List SchemaFault
required_faults None = []
required_faults (Some (boolean b)) = []
required_faults (Some _) = Shape ∷ []

-- An attribute, followed by others (Cedar documentation, JSON schema format: Record).
abbrev pub row_then : List ℕ → Option Data → Read → RowsRead → RowsRead
row_then k required r rest = record { rows = form_row k (is_required required) r.form rest.rows; faults = required_faults required ++ r.faults ++ rest.faults }

-- ---- all levels
-- What a JSON says as a type at a position (Cedar documentation, JSON schema format: attribute types).
unfoldable mutual
  pub type_read : Scope → Position → Data → Read
  type_read sc position (object ms) = of_type sc position (object ms) (read_at sc (codes "element") ms) (rows_at sc (codes "attributes") ms) (text_at (codes "type") (object ms))
  type_read sc position _ = bad Shape

  -- The value at a key of an object, read as a type. Where the key is there twice, the first value counts (Cedar documentation,
  -- JSON schema format: Set).
  pub read_at : Scope → List ℕ → Members → Option Read
  read_at sc k no_members = None
  read_at sc k (member l d ms) = match_ordering (slice_cmp nat_cmp k l) (read_at sc k ms) (Some (type_read sc Inner d)) (read_at sc k ms)

  -- The value at a key of an object, read as attributes. Where the key is there twice, the first value counts (Cedar
  -- documentation, JSON schema format: Record).
  pub rows_at : Scope → List ℕ → Members → Option RowsRead
  rows_at sc k no_members = None
  rows_at sc k (member l d ms) = match_ordering (slice_cmp nat_cmp k l) (rows_at sc k ms) (Some (rows_read sc d)) (rows_at sc k ms)

  -- What a JSON writes as the attributes of a record: it has to be an object (Cedar documentation, JSON schema format: Record).
  pub rows_read : Scope → Data → RowsRead
  rows_read sc (object ms) = all_rows sc ms
  rows_read sc _ = record { rows = no_form_rows; faults = Shape ∷ [] }

  -- What the members of an object write as attributes, one after another (Cedar documentation, JSON schema format: Record).
  pub all_rows : Scope → Members → RowsRead
  all_rows sc no_members = no_rows_read
  all_rows sc (member k d ms) = row_then k (get (codes "required") d) (type_read sc Attribute d) (all_rows sc ms)
