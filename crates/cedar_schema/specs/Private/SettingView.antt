-- What settings and sections of the code denote.
use Rattle.std.specs.Prelude.{◌≡◌, List, []}
use Rattle.std.specs.List.{AllByRecursion}
use Rattle.cedar_schema_json.specs.Entries.{EntryTree, whole_names}
use Rattle.cedar_schema_json.specs.declared.json.entry.Entry.{Entry}
use Rattle.cedar_schema_json.specs.EntryView.{entries_view}
use Rattle.cedar_schema.specs.declared.schema.declarations.Setting.{Setting as CodeSetting}
use Rattle.cedar_schema.specs.Schemas.{Setting, Sections, uids_onto}
use Rattle.cedar_schema_json.specs.TableView.{table_of}
use Rattle.cedar_schema.specs.Private.NamedForms.{FormNames}

abbrev pub setting_view : CodeSetting → Setting
setting_view s = record { language = s.language; entities = s.entities.now; commons = s.commons.now; table = table_of s.table.forms.now; uids = s.uids.now.keys }

abbrev pub sections_view : List Entry → List Entry → List Entry → Sections
sections_view commons entities actions = record { commons = entries_view commons; entities = entries_view entities; actions = entries_view actions }

-- the setting is of these entries, and each entity type in its common types is declared
pub record IsSettingOf (s : Setting) (entities actions : List EntryTree) : Type 0 where
  pub names : s.entities ≡ whole_names entities
  pub uids : s.uids ≡ uids_onto [] actions
  pub forms : AllByRecursion (FormNames s.entities) s.table
