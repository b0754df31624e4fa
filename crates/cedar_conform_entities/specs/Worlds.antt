-- The world of entities for a schema: the schema's actions, then the entities.
use Rattle.std.specs.Prelude.{◌≡◌, ◌++◌, true, Some, Contains}
use Rattle.cedar_value.specs.Datum.{record_of, fields_of}
use Rattle.cedar_value.specs.World.{World, EntityTree}
use Rattle.cedar_value.specs.declared.uid.Uid.{Uid}
use Rattle.cedar_schema_types.specs.Types.{TypeTree}
use Rattle.cedar_schema_types.specs.Membership.{Member}
use Rattle.cedar_schema_spec.specs.Conformance.{Conforms}
use Rattle.cedar_schema_spec.specs.Declarations.{IsEntityType, action_entities}
use Rattle.cedar_schema_spec.specs.Descents.{TypeDescends}
use Rattle.cedar_schema_spec.specs.Enumerated.{entity_listed}
use Rattle.cedar_schema_spec.specs.SchemaTree.{SchemaTree, shape_of}
use Rattle.cedar_schema_spec.specs.WellFormed.{AreTypesApart, IsHierarchy}

-- An entity is sound: it is of a declared type, its attributes belong to the type's shape, each direct parent is of a declared type
-- from which its own descends, and each uid that it writes is one that its type has (Cedar documentation, entities and context in
-- JSON: validation by a schema; Cedar RFC 53).
pub record IsSound (s : SchemaTree) (e : EntityTree) : Type 0 where
  pub shape : TypeTree
  pub declared : shape_of s e.uid.ty ≡ Some shape
  pub attributes : Member shape (record_of (fields_of e.attributes))
  pub parents : (p : Uid) → Contains e.parents p → IsEntityType s p.ty × TypeDescends s e.uid.ty p.ty
  pub listed : entity_listed s e ≡ true

-- The schema's actions are in every world, before the entities (own).
abbrev pub world_of : SchemaTree → World → World
world_of s es = action_entities s ++ es

-- Direct parents are enough: sound entities are, with the schema's actions, a world that conforms, since what is above an
-- entity is then of a type from which its own descends, however far up (Cedar documentation, validation).
abbrev pub SoundEntitiesConform : Type 0
SoundEntitiesConform = (s : SchemaTree) (es : World) → AreTypesApart s → IsHierarchy s → ((e : EntityTree) → Contains es e → IsSound s e) → Conforms s (world_of s es)
