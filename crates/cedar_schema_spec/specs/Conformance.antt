-- Which worlds and requests conform to a schema.
use Rattle.std.specs.Prelude.{◌≡◌, ◌↔◌, [], true, Some, Contains}
use Rattle.cedar_value.specs.Datum.{record_of, fields_of}
use Rattle.cedar_value.specs.World.{World, EntityTree, has_entity, Below}
use Rattle.cedar_value.specs.declared.uid.Uid.{Uid}
use Rattle.cedar_value.specs.declared.request.Request.{Request}
use Rattle.cedar_schema_types.specs.Types.{TypeTree}
use Rattle.cedar_schema_spec.specs.SchemaTree.{SchemaTree, shape_of, environments_of}
use Rattle.cedar_schema_spec.specs.Descents.{ActionDescends, TypeDescends}
use Rattle.cedar_schema_spec.specs.declared.environment.Environment.{Environment}
use Rattle.cedar_schema_types.specs.Membership.{Member}
use Rattle.cedar_schema_spec.specs.Declarations.{IsAction, action_entities}
use Rattle.cedar_schema_spec.specs.Enumerated.{entity_listed, request_listed}

-- An entity of a declared type with attributes in its shape, or a declared action without attributes (Cedar documentation,
-- validation; cedar-spec, Lean: Cedar.Validation, InstanceOfEntitySchema).
pub data IsOfSchema (s : SchemaTree) (e : EntityTree) : Type 0 where
  of_type : {t : TypeTree} → shape_of s e.uid.ty ≡ Some t → Member t (record_of (fields_of e.attributes)) → IsOfSchema s e
  of_action : IsAction s e.uid → e.attributes ≡ [] → IsOfSchema s e

-- A world conforms: each entity is of the schema and writes uids that their types have, the type of each uid above an entity is
-- one from which the entity's type descends, and the declared actions are there with exactly what they descend from. Nothing else
-- has to be there (Cedar documentation, validation; Cedar RFC 53; cedar-spec, Lean: Cedar.Validation,
-- RequestAndEntitiesMatchEnvironment).
pub record Conforms (s : SchemaTree) (w : World) : Type 0 where
  pub entities : (e : EntityTree) → Contains w e → IsOfSchema s e
  -- each uid that an entity writes is one that its type has
  pub listed : (e : EntityTree) → Contains w e → ¬ IsAction s e.uid → entity_listed s e ≡ true
  -- the type of each uid above an entity is one from which the entity's type descends
  pub above : (u v : Uid) → ¬ IsAction s u → Below w u v → TypeDescends s u.ty v.ty
  -- every declared action is there, and is below exactly what it descends from
  pub present : (u : Uid) → IsAction s u → has_entity w u ≡ true
  pub actions : (u v : Uid) → IsAction s u → Below w u v ↔ ActionDescends s u v

-- A request belongs to an environment: it has its action and its types, the context belongs to its context type, and each uid that
-- it writes is one that its type has (Cedar documentation, validation; Cedar RFC 53).
pub record FitsIn (s : SchemaTree) (env : Environment) (q : Request) : Type 0 where
  pub listed : Contains (environments_of s.actions) env
  pub principal : q.principal.ty ≡ env.principal
  pub action : q.action ≡ env.action
  pub resource : q.resource.ty ≡ env.resource
  pub context : Member env.context (record_of (fields_of q.context))
  pub uids : request_listed s q ≡ true

-- A request fits where it belongs to some environment of the schema (Cedar documentation, validation; cedar-spec, Lean:
-- Cedar.Validation, RequestMatchesEnvironment).
abbrev pub Fits : SchemaTree → Request → Type 0
Fits s q = (env : Environment) × FitsIn s env q

-- Each schema has a world that conforms: that of its actions alone (own).
abbrev pub ActionsConform : Type 0
ActionsConform = (s : SchemaTree) → Conforms s (action_entities s)
