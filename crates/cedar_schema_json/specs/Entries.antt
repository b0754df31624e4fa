-- What a schema's JSON declares, as flat lists (Cedar documentation, JSON schema format: namespaces).
use Rattle.std.specs.Prelude.{ℕ, ◌==◌, ◌||◌, ◌&&◌, not, length, nat_eq, Bool, true, false, bytes_eq, codes, is_some, List, [], ◌∷◌, ◌++◌, map, Option, Some, None, option_map, option_and_then, unwrap_or, if◌then◌else◌}
use Rattle.std.specs.List.{list_any}
use Rattle.serde_json.specs.Data.{Data, null, Members, no_members, member}
use Rattle.serde_json.specs.Find.{get, as_object}
use Rattle.cedar_ext.specs.declared.language.Language.{Language}
use Rattle.cedar_ext.specs.declared.language.Language.TheVariants.{Profile, Cedar4}
use Rattle.cedar_schema_json.specs.declared.schema_fault.SchemaFault.{SchemaFault}
use Rattle.cedar_schema_json.specs.declared.schema_fault.SchemaFault.TheVariants.{Shape, ReservedName}
use Rattle.cedar_schema_json.specs.declared.json.part.Part.{Part}
use Rattle.cedar_schema_json.specs.declared.json.part.Part.TheVariants.{Namespace, EntityType, Action, AppliesTo, Member}
use Rattle.cedar_schema_json.specs.declared.form.kind.Kind.TheVariants.{Named}
use Rattle.cedar_schema_json.specs.declared.form.kind.Kind.{Kind}
use Rattle.cedar_schema_json.specs.Annotations.{is_annotation}
use Rattle.cedar_schema_json.specs.Naming.{text_faults, qualified, place_of, fault_if}
use Rattle.cedar_schema_json.specs.Reading.{Scope, key_faults, kind_named}

-- An entry: a key of a section, the value at the key, and the namespace that the section is of (Cedar documentation, JSON
-- schema format: namespaces).
pub record EntryTree : Type 0 where
  pub namespace : List ℕ
  pub key : List ℕ
  pub body : Data

-- The members of the object at a key, none where there is no object (Cedar documentation, JSON schema format: namespaces).
abbrev pub section : List ℕ → Data → Members
section k d = unwrap_or (option_and_then as_object (get k d)) no_members

-- The value at a key, where null counts as absent (own).
abbrev pub unless_null : Option Data → Option Data
unless_null (Some null) = None
unless_null o = o

-- The entries of one section, in order (Cedar documentation, JSON schema format: namespaces).
abbrev pub entries_in : List ℕ → Members → List EntryTree
entries_in namespace no_members = []
entries_in namespace (member k d ms) = record { namespace = namespace; key = k; body = d } ∷ entries_in namespace ms

-- The entries of all sections of this name (Cedar documentation, JSON schema format: namespaces).
unfoldable pub entries : List ℕ → Members → List EntryTree
entries k no_members = []
entries k (member namespace space rest) = entries_in namespace (section k space) ++ entries k rest

-- The full names of what the entries declare (Cedar documentation, JSON schema format: namespaces).
abbrev pub whole_names : List EntryTree → List (List ℕ)
whole_names = map (λ e. qualified e.namespace e.key)

-- ---- faults

-- Whether the key is that of the ids of an enumerated entity type, which Cedar 4 has (Cedar RFC 53).
abbrev pub is_enumeration : Language → List ℕ → Bool
is_enumeration Profile k = false
is_enumeration Cedar4 k = bytes_eq k (codes "enum")

-- Which keys, with which values, an object of a schema may have in a language (Cedar documentation, JSON schema format).
unfoldable pub belongs : Language → Part → List ℕ → Data → Bool
belongs language Namespace k d = bytes_eq k (codes "entityTypes") || bytes_eq k (codes "actions") || bytes_eq k (codes "commonTypes") || is_annotation language k d
belongs language EntityType k d = bytes_eq k (codes "memberOfTypes") || bytes_eq k (codes "shape") || is_enumeration language k || is_annotation language k d
belongs language Action k d = bytes_eq k (codes "memberOf") || bytes_eq k (codes "appliesTo") || bytes_eq k (codes "attributes") || is_annotation language k d
belongs language AppliesTo k d = bytes_eq k (codes "principalTypes") || bytes_eq k (codes "resourceTypes") || bytes_eq k (codes "context")
belongs language Member k d = bytes_eq k (codes "id") || bytes_eq k (codes "type")

-- The faults of an object of a schema: it has to be an object, else 302, and have these keys alone (Cedar documentation, JSON
-- schema format).
abbrev pub part_faults : Language → Part → Data → List SchemaFault
part_faults language part d = unwrap_or (option_map (key_faults (belongs language part)) (as_object d)) (Shape ∷ [])

-- The fault of a section: where it is there, it has to be an object (Cedar documentation, JSON schema format: namespaces).
abbrev pub object_faults : Option Data → List SchemaFault
object_faults None = []
object_faults (Some d) = fault_if (not (is_some (as_object d))) Shape

-- A namespace is the empty text or a name (Cedar documentation, JSON schema format: namespaces).
unfoldable pub namespace_faults : List ℕ → List SchemaFault
namespace_faults namespace = if length namespace == 0 then [] else text_faults namespace

-- The faults of one namespace, without those of its entries (Cedar documentation, JSON schema format: namespaces).
unfoldable pub space_faults : Language → List ℕ → Data → List SchemaFault
space_faults language namespace space =
    namespace_faults namespace ++ (part_faults language Namespace space ++ (object_faults (get (codes "entityTypes") space) ++ (object_faults (get (codes "actions") space) ++ object_faults (get (codes "commonTypes") space))))

-- The faults of all namespaces, without those of their entries (Cedar documentation, JSON schema format: namespaces).
abbrev pub root_faults : Language → Members → List SchemaFault
root_faults language no_members = []
root_faults language (member namespace space rest) = space_faults language namespace space ++ root_faults language rest

-- The faults of a key that has to be an identifier: a name without `::` (Cedar documentation, JSON schema format).
unfoldable pub key_text_faults : List ℕ → List SchemaFault
key_text_faults k = text_faults k ++ fault_if (list_any (nat_eq 58) k) Shape

-- Whether a full name is that of an entity type or of a common type (Cedar documentation, JSON schema format: namespaces).
abbrev pub is_declared : Scope → List ℕ → Bool
is_declared sc name = is_some (place_of sc.entities name) || is_some (place_of sc.commons name)

-- Whether a definition of a namespace would have the name of one of the empty namespace (Cedar RFC 70).
unfoldable pub shadows : Scope → List ℕ → Bool
shadows sc k = not (length sc.namespace == 0) && is_declared sc k

-- The fault of a definition that shadows another: 306 in Cedar 4 (Cedar RFC 70; own).
abbrev pub shadow_faults : Language → Scope → List ℕ → List SchemaFault
shadow_faults Profile sc k = []
shadow_faults Cedar4 sc k = fault_if (shadows sc k) ReservedName

-- An entity type may not be called `Action`: 306 (Cedar documentation, JSON schema format: entityTypes).
unfoldable pub entity_key_faults : Scope → List ℕ → List SchemaFault
entity_key_faults sc k = key_text_faults k ++ (fault_if (bytes_eq k (codes "Action")) ReservedName ++ shadow_faults sc.language sc k)

-- Whether the kind is that of a name, and not of a key word (own).
abbrev pub is_named : Kind → Bool
is_named Named = true
is_named _ = false

-- Whether no common type may have the name: it is a key word, or `Bool` in Cedar 4 (Cedar documentation, JSON schema format:
-- commonTypes).
unfoldable pub is_kept : Language → List ℕ → Bool
is_kept Profile k = not (is_named (kind_named k))
is_kept Cedar4 k = bytes_eq k (codes "Bool") || not (is_named (kind_named k))

-- A common type may not have the name of a built-in type: 306 (Cedar documentation, JSON schema format: commonTypes; own).
unfoldable pub common_key_faults : Scope → List ℕ → List SchemaFault
common_key_faults sc k = key_text_faults k ++ (fault_if (is_kept sc.language k) ReservedName ++ shadow_faults sc.language sc k)
