-- Which world a list of entities denotes for a schema.
use Rattle.std.specs.Prelude.{◌≡◌, ◌⊎◌, true, List, [], ◌∷◌, Some, Contains}
use Rattle.serde_json.specs.Data.{Data, object, Items, no_items, item, no_members}
use Rattle.serde_json.specs.Find.{as_array}
use Rattle.cedar_conform_values.specs.Values.{value_read}
use Rattle.cedar_conform_entities.specs.Entries.{Writes, WritesEntity, IsActionName, TwoWrite, attributes_in}
use Rattle.cedar_conform_entities.specs.Worlds.{world_of}
use Rattle.cedar_schema_spec.specs.Conformance.{Conforms}
use Rattle.cedar_schema_spec.specs.Declarations.{IsAction, IsEntityType}
use Rattle.cedar_schema_spec.specs.Descents.{ActionDescends, TypeDescends}
use Rattle.cedar_schema_spec.specs.Enumerated.{entity_listed}
use Rattle.cedar_schema_spec.specs.SchemaTree.{SchemaTree, shape_of}
use Rattle.cedar_schema_spec.specs.WellFormed.{AreTypesApart, IsHierarchy}
use Rattle.cedar_store.specs.Entities.{IsAcyclic}
use Rattle.cedar_schema_types.specs.Types.{TypeTree}
use Rattle.cedar_value.specs.Datum.{record_of, fields_of}
use Rattle.cedar_value.specs.World.{World, EntityTree}
use Rattle.cedar_value.specs.declared.uid.Uid.{Uid}

-- An entry reads as an entity, whichever ids enumerated types have. It writes its uid and its parents, the type is declared, and its
-- last part is not `Action`. The attributes are read without fault for the type's shape. Each parent is of a declared type from
-- which the entity's own descends (Cedar documentation, entities and context in JSON).
pub record ReadsEntity (s : SchemaTree) (d : Data) (e : EntityTree) : Type 0 where
  pub written : WritesEntity d e.uid e.parents
  pub shape : TypeTree
  pub declared : shape_of s e.uid.ty ≡ Some shape
  pub fine : (value_read shape (attributes_in d)).faults ≡ []
  pub attributes : record_of (fields_of e.attributes) ≡ (value_read shape (attributes_in d)).value
  pub parents : (p : Uid) → Contains e.parents p → IsEntityType s p.ty × TypeDescends s e.uid.ty p.ty

-- An entry denotes an entity: it reads as the entity, and each uid that the entity writes is one that its type has (Cedar
-- documentation, entities and context in JSON; Cedar RFC 53).
pub record DenotesEntity (s : SchemaTree) (d : Data) (e : EntityTree) : Type 0 where
  pub read : ReadsEntity s d e
  pub listed : entity_listed s e ≡ true

-- An entry repeats an action of the schema: it writes its uid, a type whose last part is `Action`, no attributes, and as
-- parents only what the action descends from (Cedar documentation, entities and context in JSON: actions; own).
pub record RepeatsAction (s : SchemaTree) (d : Data) (u : Uid) (parents : List Uid) : Type 0 where
  pub written : Writes d u parents
  pub named : IsActionName u.ty
  pub declared : IsAction s u
  pub empty : attributes_in d ≡ object no_members
  pub ancestors : (p : Uid) → Contains parents p → ActionDescends s u p

-- An entry is accepted: it denotes an entity, or it repeats an action (Cedar documentation, entities and context in JSON).
abbrev pub IsAccepted : SchemaTree → Data → Type 0
IsAccepted s d = ((e : EntityTree) × DenotesEntity s d e) ⊎ ((u : Uid) × ((parents : List Uid) × RepeatsAction s d u parents))

-- Entry by entry: the entities that a list denotes. The actions that it repeats add nothing to them (Cedar documentation,
-- entities and context in JSON).
pub data DenoteEntities (s : SchemaTree) : Items → World → Type 0 where
  no_entries : DenoteEntities s no_items []
  an_entity : {d : Data} {e : EntityTree} {ds : Items} {es : World} → DenotesEntity s d e → DenoteEntities s ds es → DenoteEntities s (item d ds) (e ∷ es)
  an_action : {d : Data} {u : Uid} {parents : List Uid} {ds : Items} {es : World} → RepeatsAction s d u parents → DenoteEntities s ds es → DenoteEntities s (item d ds) es

-- A JSON denotes a world: it is a list of entries that denotes entities, no uid is written twice, and nothing is below
-- itself. The world has the schema's actions and the entities (Cedar documentation, entities and context in JSON).
pub record DenotesWorld (s : SchemaTree) (d : Data) (w : World) : Type 0 where
  pub entries : Items
  pub list : as_array d ≡ Some entries
  pub entities : World
  pub denoted : DenoteEntities s entries entities
  pub distinct : (u : Uid) → ¬ TwoWrite entries u
  pub acyclic : IsAcyclic w
  pub is : w ≡ world_of s entities

-- A world that a JSON denotes conforms to the schema (Cedar documentation, validation).
abbrev pub DenotedWorldsConform : Type 0
DenotedWorldsConform = (s : SchemaTree) (d : Data) (w : World) → AreTypesApart s → IsHierarchy s → DenotesWorld s d w → Conforms s w
