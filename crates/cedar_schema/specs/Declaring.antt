-- What the JSON of entity types and actions writes (Cedar documentation, JSON schema format).
use Rattle.std.specs.Prelude.{ℕ, nat_eq, codes, List, [], ◌∷◌, ◌++◌, Option, Some, None, is_some, if◌then◌else◌}
use Rattle.std.specs.List.{list_any}
use Rattle.serde_json.specs.Data.{Data}
use Rattle.serde_json.specs.Find.{get, as_object, as_str}
use Rattle.std.specs.BTreeMap.{is_at}
use Rattle.cedar_ext.specs.declared.language.Language.{Language}
use Rattle.cedar_value.specs.Order.{uid_cmp}
use Rattle.cedar_value.specs.declared.uid.Uid.{Uid}
use Rattle.cedar_schema_json.specs.declared.schema_fault.SchemaFault.{SchemaFault}
use Rattle.cedar_schema_json.specs.declared.schema_fault.SchemaFault.TheVariants.{Shape, UnknownType, Unspecified}
use Rattle.cedar_schema_json.specs.declared.json.part.Part.TheVariants.{EntityType, Action, AppliesTo, Member}
use Rattle.cedar_schema_types.specs.Types.{TypeTree, record_of, no_attributes}
use Rattle.cedar_schema_json.specs.Naming.{text_faults, qualified, fault_if, or_else}
use Rattle.cedar_schema_json.specs.Reading.{Scope, text_at}
use Rattle.cedar_schema_json.specs.Expansion.{Table}
use Rattle.cedar_schema_json.specs.Entries.{EntryTree, unless_null, part_faults, entity_key_faults}
use Rattle.cedar_schema_json.specs.Lists.{ListRead, list_at, names_at, set_onto}
use Rattle.cedar_schema_json.specs.Shapes.{record_type, record_or_empty, empty_faults}
use Rattle.cedar_schema_spec.specs.SchemaTree.{EntityTypeTree, ActionTree}

-- ---- entity types

-- The entity type that an entry declares: its parents, and its shape (Cedar documentation, JSON schema format: entityTypes).
unfoldable pub entity_type_of : Scope → Table → EntryTree → EntityTypeTree
entity_type_of sc t e = record { parents = (names_at sc [] (get (codes "memberOfTypes") e.body)).items; shape = record_or_empty (record_type sc t (get (codes "shape") e.body)).ty }

-- The faults of the entry of an entity type: of its key, its keys, its parents and its shape (Cedar documentation, JSON
-- schema format: entityTypes).
unfoldable pub entity_type_faults : Scope → Table → EntryTree → List SchemaFault
entity_type_faults sc t e =
    entity_key_faults sc e.key ++ (part_faults sc.language EntityType e.body ++ ((names_at sc [] (get (codes "memberOfTypes") e.body)).faults
    ++ (record_type sc t (get (codes "shape") e.body)).faults))

-- ---- actions

-- The type of the actions of a namespace (Cedar documentation, JSON schema format: actions).
abbrev pub action_type : List ℕ → List ℕ
action_type namespace = qualified namespace (codes "Action")

-- The uid of the action that an entry declares: `N::Action::"key"` (Cedar documentation, JSON schema format: actions).
abbrev pub uid_of : EntryTree → Uid
uid_of e = record { ty = action_type e.namespace; id = e.key }

-- A uid, where it is in the list (own).
abbrev pub listed_uid : List Uid → Uid → Option Uid
listed_uid uids u = if list_any (is_at (uid_cmp u)) uids then Some u else None

-- The uid of a type and an id (own).
abbrev pub with_type : List ℕ → List ℕ → Uid
with_type id ty = record { ty = ty; id = id }

-- The declared action that a type and an id denote: a type with `::` denotes itself, another the one in its own namespace, or
-- else in the empty one (Cedar documentation, JSON schema format: memberOf).
unfoldable pub typed_uid : List Uid → List ℕ → List ℕ → List ℕ → Option Uid
typed_uid uids namespace ty id =
    if list_any (nat_eq 58) ty then listed_uid uids (with_type id ty) else or_else (listed_uid uids (with_type id (qualified namespace ty))) (listed_uid uids (with_type id ty))

-- The uid that was found; an undeclared one is 303 (Cedar documentation, JSON schema format: memberOf).
abbrev pub found_uid : List SchemaFault → Option Uid → ListRead Uid
found_uid faults None = record { items = []; faults = faults ++ UnknownType ∷ [] }
found_uid faults (Some u) = record { items = u ∷ []; faults = faults }

-- The member of an id and a type; a type that is not a string is 302 (Cedar documentation, JSON schema format: memberOf).
abbrev pub by_type : List Uid → List ℕ → List ℕ → Option (List ℕ) → ListRead Uid
by_type uids namespace id None = record { items = []; faults = Shape ∷ [] }
by_type uids namespace id (Some ty) = found_uid (text_faults ty) (typed_uid uids namespace ty id)

-- The member of an id: without a type it is of the same namespace (Cedar documentation, JSON schema format: memberOf).
abbrev pub by_id : List Uid → List ℕ → List ℕ → Option Data → ListRead Uid
by_id uids namespace id None = found_uid [] (listed_uid uids (with_type id (action_type namespace)))
by_id uids namespace id (Some d) = by_type uids namespace id (as_str d)

-- The member of an object with an id; one without an id is 302 (Cedar documentation, JSON schema format: memberOf).
abbrev pub by_member : List Uid → List ℕ → Data → Option (List ℕ) → ListRead Uid
by_member uids namespace d None = record { items = []; faults = Shape ∷ [] }
by_member uids namespace d (Some id) = by_id uids namespace id (get (codes "type") d)

-- The uid that a member of `memberOf` writes in a language (Cedar documentation, JSON schema format: memberOf).
unfoldable pub member_read : Language → List Uid → List ℕ → Data → ListRead Uid
member_read language uids namespace d = record {
  items = (by_member uids namespace d (text_at (codes "id") d)).items;
  faults = part_faults language Member d ++ (by_member uids namespace d (text_at (codes "id") d)).faults;
}

-- What an `appliesTo` writes: the types of principals and of resources, the type of the context, and the faults that are there
-- (Cedar documentation, JSON schema format: appliesTo).
pub record Applies : Type 0 where
  pub principals : List (List ℕ)
  pub resources : List (List ℕ)
  pub context : TypeTree
  pub faults : List SchemaFault

-- The fault of a list that an `appliesTo` lacks, where it is an object at all: 308 (Cedar documentation, JSON schema format: appliesTo).
abbrev pub unspecified : Data → List SchemaFault
unspecified d = fault_if (is_some (as_object d)) Unspecified

-- What an `appliesTo` writes. Without one an action applies to nothing (Cedar documentation, JSON schema format: appliesTo;
-- own).
unfoldable pub applies_read : Scope → Table → Option Data → Applies
applies_read sc t None = record { principals = []; resources = []; context = record_of no_attributes; faults = [] }
applies_read sc t (Some d) = record {
  principals = set_onto [] (names_at sc (unspecified d) (get (codes "principalTypes") d)).items;
  resources = set_onto [] (names_at sc (unspecified d) (get (codes "resourceTypes") d)).items;
  context = record_or_empty (record_type sc t (get (codes "context") d)).ty;
  faults = part_faults sc.language AppliesTo d ++ ((names_at sc (unspecified d) (get (codes "principalTypes") d)).faults
      ++ ((names_at sc (unspecified d) (get (codes "resourceTypes") d)).faults ++ (record_type sc t (get (codes "context") d)).faults));
}

-- The action that an entry declares (Cedar documentation, JSON schema format: actions).
unfoldable pub action_of : Scope → Table → List Uid → EntryTree → ActionTree
action_of sc t uids e = record {
  parents = (list_at (member_read sc.language uids sc.namespace) [] (unless_null (get (codes "memberOf") e.body))).items;
  principals = (applies_read sc t (unless_null (get (codes "appliesTo") e.body))).principals;
  resources = (applies_read sc t (unless_null (get (codes "appliesTo") e.body))).resources;
  context = (applies_read sc t (unless_null (get (codes "appliesTo") e.body))).context;
}

-- The faults of the entry of an action: of its keys, its members, its `appliesTo` and its attributes (Cedar documentation,
-- JSON schema format: actions).
unfoldable pub action_faults : Scope → Table → List Uid → EntryTree → List SchemaFault
action_faults sc t uids e =
    part_faults sc.language Action e.body ++ ((list_at (member_read sc.language uids sc.namespace) [] (unless_null (get (codes "memberOf") e.body))).faults
    ++ ((applies_read sc t (unless_null (get (codes "appliesTo") e.body))).faults ++ empty_faults (unless_null (get (codes "attributes") e.body))))
