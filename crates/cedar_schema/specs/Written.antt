-- What is in the schema that an object of namespaces denotes in a language, entry by entry.
use Rattle.std.specs.Prelude.{◌≡◌, ◌≢◌, ◌↔◌, ℕ, List, [], map, codes, AllPairs, Contains}
use Rattle.serde_json.specs.Data.{Members}
use Rattle.cedar_ext.specs.declared.language.Language.{Language}
use Rattle.cedar_value.specs.declared.uid.Uid.{Uid}
use Rattle.cedar_schema_json.specs.Naming.{qualified}
use Rattle.cedar_schema_json.specs.Entries.{EntryTree, entries, whole_names}
use Rattle.cedar_schema_json.specs.Lists.{set_onto}
use Rattle.cedar_schema.specs.Declaring.{uid_of, entity_type_of, action_of}
use Rattle.cedar_schema_spec.specs.SchemaTree.{EntityTypeTree, ActionTree}
use Rattle.cedar_schema.specs.Schemas.{sections_of, setting_of, scope_in, schema_of, uids_onto}

-- Some entry of a section `entityTypes` has this full name, and writes this entity type (Cedar documentation, JSON schema
-- format: entityTypes).
pub record IsWrittenType (language : Language) (root : Members) (n : List ℕ) (t : EntityTypeTree) : Type 0 where
  pub entry : EntryTree
  pub written : Contains (entries (codes "entityTypes") root) entry
  pub name : n ≡ qualified entry.namespace entry.key
  pub content : t ≡ entity_type_of (scope_in (setting_of language (sections_of root)) entry) (setting_of language (sections_of root)).table entry

-- Some entry of a section `actions` has this uid, and writes this action (Cedar documentation, JSON schema format: actions).
pub record IsWrittenAction (language : Language) (root : Members) (u : Uid) (a : ActionTree) : Type 0 where
  pub entry : EntryTree
  pub written : Contains (entries (codes "actions") root) entry
  pub uid : u ≡ uid_of entry
  pub content : a ≡ action_of (scope_in (setting_of language (sections_of root)) entry) (setting_of language (sections_of root)).table (setting_of language (sections_of root)).uids entry

-- Each entity type of the schema is written, and each that is written is one of the schema where no name is written twice
-- (own).
abbrev pub TypesAreWritten : Type 0
TypesAreWritten = (language : Language) (root : Members) (n : List ℕ) (t : EntityTypeTree)
    → (Contains (schema_of language root).entities (n, t) → IsWrittenType language root n t)
    × (AllPairs (λ m k. m ≢ k) (whole_names (entries (codes "entityTypes") root)) → IsWrittenType language root n t → Contains (schema_of language root).entities (n, t))

-- Each action of the schema is written, and each that is written is one of the schema where no uid is written twice (own).
abbrev pub ActionsAreWritten : Type 0
ActionsAreWritten = (language : Language) (root : Members) (u : Uid) (a : ActionTree)
    → (Contains (schema_of language root).actions (u, a) → IsWrittenAction language root u a)
    × (AllPairs (λ v w. v ≢ w) (map uid_of (entries (codes "actions") root)) → IsWrittenAction language root u a → Contains (schema_of language root).actions (u, a))

-- A list of names that is put in order has the names that it had, and no others (own).
abbrev pub NamesAreKept : Type 0
NamesAreKept = (names : List (List ℕ)) (n : List ℕ) → Contains (set_onto [] names) n ↔ Contains names n

-- The uids of declared actions are those of the entries of `actions` (own).
abbrev pub UidsAreKept : Type 0
UidsAreKept = (es : List EntryTree) (u : Uid) → Contains (uids_onto [] es) u ↔ Contains (map uid_of es) u
