-- What a schema's JSON denotes, and the faults that are there (Cedar documentation, JSON schema format).
use Rattle.std.specs.Prelude.{ℕ, List, [], ◌∷◌, ◌++◌, map, codes, option_map, unwrap_or}
use Rattle.std.specs.BTreeMap.{insert_entry}
use Rattle.std.specs.BTreeSet.{insert_key}
use Rattle.serde_json.specs.Data.{Members}
use Rattle.cedar_ext.specs.declared.language.Language.{Language}
use Rattle.cedar_value.specs.Order.{text_cmp, uid_cmp}
use Rattle.cedar_value.specs.declared.uid.Uid.{Uid}
use Rattle.cedar_schema_json.specs.declared.schema_fault.SchemaFault.{SchemaFault}
use Rattle.cedar_schema_json.specs.declared.form.position.Position.TheVariants.{CommonType}
use Rattle.cedar_schema_json.specs.Reading.{Scope, type_read}
use Rattle.cedar_schema_json.specs.Expansion.{Table, typed}
use Rattle.cedar_schema_json.specs.Forms.{FormTree}
use Rattle.cedar_schema.specs.Each.{each_faults, each_onto}
use Rattle.cedar_schema_json.specs.Naming.{qualified}
use Rattle.cedar_schema_json.specs.Enumerations.{enumeration_faults, enumeration_of}
use Rattle.cedar_schema_json.specs.Entries.{EntryTree, entries, whole_names, root_faults, common_key_faults}
use Rattle.cedar_schema.specs.Declaring.{uid_of, entity_type_of, entity_type_faults, action_of, action_faults}
use Rattle.cedar_schema_spec.specs.SchemaTree.{EntityTypeTree, ActionTree, SchemaTree}

-- What is declared in a schema of a language: the names of the entity types and of the common types, these as they are written,
-- and the uids of the actions, ascending (Cedar documentation, JSON schema format: namespaces; own).
pub record Setting : Type 0 where
  pub language : Language
  pub entities : List (List ℕ)
  pub commons : List (List ℕ)
  pub table : Table
  pub uids : List Uid

-- A namespace among what is declared in a language (Cedar documentation, JSON schema format: namespaces; own).
abbrev pub scope_at : Language → List (List ℕ) → List (List ℕ) → List ℕ → Scope
scope_at language entities commons namespace = record { language = language; namespace = namespace; entities = entities; commons = commons }

-- The namespace of an entry among what is declared (Cedar documentation, JSON schema format: namespaces).
abbrev pub scope_in : Setting → EntryTree → Scope
scope_in s e = scope_at s.language s.entities s.commons e.namespace

-- ---- common types

-- The common types as they are written (Cedar documentation, JSON schema format: commonTypes).
abbrev pub forms_of : Language → List (List ℕ) → List (List ℕ) → List EntryTree → Table
forms_of language entities commons = map (λ e. (type_read (scope_at language entities commons e.namespace) CommonType e.body).form)

-- The faults of a common type as it is written: of its key, and of its type (Cedar documentation, JSON schema format:
-- commonTypes).
abbrev pub common_faults : Language → List (List ℕ) → List (List ℕ) → EntryTree → List SchemaFault
common_faults language entities commons e = common_key_faults (scope_at language entities commons e.namespace) e.key ++ (type_read (scope_at language entities commons e.namespace) CommonType e.body).faults

-- The faults of a common type as it is expanded: it has to be within the limits, 309, and may not lead back to itself, 304
-- (Cedar documentation, JSON schema format: commonTypes; own).
abbrev pub expansion_faults : Table → FormTree → List SchemaFault
expansion_faults t f = (typed t f).faults

-- ---- entity types, by their names in ascending order

-- The entity types with that of one more entry, at its name (Cedar documentation, JSON schema format: entityTypes).
abbrev pub add_entity : Setting → List (List ℕ × EntityTypeTree) → EntryTree → List (List ℕ × EntityTypeTree)
add_entity s done e = insert_entry text_cmp done (qualified e.namespace e.key) (entity_type_of (scope_in s e) s.table e)

-- The faults of an entry of `entityTypes` (Cedar documentation, JSON schema format: entityTypes).
abbrev pub entity_faults : Setting → EntryTree → List SchemaFault
entity_faults s e = entity_type_faults (scope_in s e) s.table e

-- The ids of the enumerated types with those of one more entry, at its name (Cedar RFC 53).
abbrev pub add_enumeration : List (List ℕ × List (List ℕ)) → EntryTree → List (List ℕ × List (List ℕ))
add_enumeration done e = unwrap_or (option_map (insert_entry text_cmp done (qualified e.namespace e.key)) (enumeration_of e.body)) done

-- The faults of the enumeration of an entry (Cedar RFC 53).
abbrev pub enumerated_faults : EntryTree → List SchemaFault
enumerated_faults e = enumeration_faults e.body

-- ---- actions, by their uids in ascending order

-- The uids of the actions, put into a list in ascending order, each once (own).
abbrev pub uids_onto : List Uid → List EntryTree → List Uid
uids_onto done [] = done
uids_onto done (e ∷ es) = uids_onto (insert_key uid_cmp done (uid_of e)) es

-- The actions with that of one more entry, at its uid (Cedar documentation, JSON schema format: actions).
abbrev pub add_action : Setting → List (Uid × ActionTree) → EntryTree → List (Uid × ActionTree)
add_action s done e = insert_entry uid_cmp done (uid_of e) (action_of (scope_in s e) s.table s.uids e)

-- The faults of an entry of `actions` (Cedar documentation, JSON schema format: actions).
abbrev pub one_action_faults : Setting → EntryTree → List SchemaFault
one_action_faults s e = action_faults (scope_in s e) s.table s.uids e

-- ---- the whole

-- The entries of the three kinds of sections (Cedar documentation, JSON schema format: namespaces).
pub record Sections : Type 0 where
  pub commons : List EntryTree
  pub entities : List EntryTree
  pub actions : List EntryTree

-- The entries of an object of namespaces (Cedar documentation, JSON schema format: namespaces).
abbrev pub sections_of : Members → Sections
sections_of root = record { commons = entries (codes "commonTypes") root; entities = entries (codes "entityTypes") root; actions = entries (codes "actions") root }

-- What the entries declare in a language (Cedar documentation, JSON schema format: namespaces; own).
abbrev pub setting_of : Language → Sections → Setting
setting_of language x = record {
  language = language;
  entities = whole_names x.entities;
  commons = whole_names x.commons;
  table = forms_of language (whole_names x.entities) (whole_names x.commons) x.commons;
  uids = uids_onto [] x.actions;
}

-- The schema that the entries declare: entity types and enumerations by their names, and actions by their uids, all ascending
-- (Cedar documentation, JSON schema format).
unfoldable pub schema_in : Setting → List EntryTree → List EntryTree → SchemaTree
schema_in s entities actions = record { entities = each_onto (add_entity s) [] entities; actions = each_onto (add_action s) [] actions; enumerated = each_onto add_enumeration [] entities }

-- The faults of expansions, of entity types, of enumerations and of actions (Cedar documentation, JSON schema format).
unfoldable pub setting_faults : Setting → List EntryTree → List EntryTree → List SchemaFault
setting_faults s entities actions =
    each_faults (expansion_faults s.table) s.table ++ (each_faults (entity_faults s) entities ++ (each_faults enumerated_faults entities ++ each_faults (one_action_faults s) actions))

-- The faults of all entries in a language (Cedar documentation, JSON schema format; own).
unfoldable pub sections_faults : Language → Sections → List SchemaFault
sections_faults language x = each_faults (common_faults language (whole_names x.entities) (whole_names x.commons)) x.commons ++ setting_faults (setting_of language x) x.entities x.actions

-- The schema that an object of namespaces denotes in a language (Cedar documentation, JSON schema format; own).
abbrev pub schema_of : Language → Members → SchemaTree
schema_of language root = schema_in (setting_of language (sections_of root)) (sections_of root).entities (sections_of root).actions

-- The faults of the object in a language, without cycles of actions (Cedar documentation, JSON schema format; own).
unfoldable pub written_faults : Language → Members → List SchemaFault
written_faults language root = root_faults language root ++ sections_faults language (sections_of root)
