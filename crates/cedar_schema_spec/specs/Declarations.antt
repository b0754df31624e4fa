-- What a schema declares, with tests of declarations and descents that can be computed.
use Rattle.std.specs.Prelude.{◌≡◌, ◌↔◌, ℕ, Bool, true, ◌&&◌, ◌||◌, List, [], ◌∷◌, ◌++◌, length, map, Contains, IsSome, is_some}
use Rattle.std.specs.Bool.{Decides}
use Rattle.std.specs.List.{list_any}
use Rattle.std.specs.Map.{keys_of}
use Rattle.std.specs.Str.{bytes_eq}
use Rattle.base_reach.specs.Closure.{leads}
use Rattle.cedar_value.specs.Datum.{same_uid}
use Rattle.cedar_value.specs.World.{World, EntityTree, Below}
use Rattle.cedar_value.specs.declared.uid.Uid.{Uid}
use Rattle.cedar_schema_spec.specs.Descents.{ActionDescends, TypeDescends}
use Rattle.cedar_schema_spec.specs.Enumerated.{is_listed}
use Rattle.cedar_schema_spec.specs.SchemaTree.{SchemaTree, ActionTree, shape_of, parents_of_type, parents_of_action}

-- A declared entity type: it has a shape (Cedar documentation, JSON schema format: entityTypes).
abbrev pub IsEntityType : SchemaTree → List ℕ → Type 0
IsEntityType s n = IsSome (shape_of s n)

-- A uid of a declared entity type, which has it (Cedar documentation, JSON schema format: entityTypes; Cedar RFC 53).
abbrev pub IsEntity : SchemaTree → Uid → Type 0
IsEntity s u = IsEntityType s u.ty × (is_listed s u ≡ true)

-- A declared action (Cedar documentation, JSON schema format: actions).
abbrev pub IsAction : SchemaTree → Uid → Type 0
IsAction s u = Contains (keys_of s.actions) u

-- The type of a declared action (own).
abbrev pub IsActionType : SchemaTree → List ℕ → Type 0
IsActionType s n = (u : Uid) × IsAction s u × (u.ty ≡ n)

-- ---- tests

-- Whether it is a declared entity type (Cedar documentation, JSON schema format: entityTypes).
abbrev pub is_entity_type : SchemaTree → List ℕ → Bool
is_entity_type s n = is_some (shape_of s n)

-- Whether it is a uid of a declared entity type, which has it (Cedar documentation, JSON schema format: entityTypes; Cedar RFC 53).
abbrev pub is_entity : SchemaTree → Uid → Bool
is_entity s u = is_entity_type s u.ty && is_listed s u

-- Whether it is a declared action (Cedar documentation, JSON schema format: actions).
abbrev pub is_action : SchemaTree → Uid → Bool
is_action s u = list_any (λ v. same_uid v u) (keys_of s.actions)

-- Whether it is the type of a declared action (own).
abbrev pub is_action_type : SchemaTree → List ℕ → Bool
is_action_type s n = list_any (λ v. bytes_eq v.ty n) (keys_of s.actions)

-- Whether one or more links lead from the one action to the other: as many as there are actions are enough (Cedar language
-- reference, entities and hierarchy).
abbrev pub action_below : SchemaTree → Uid → Uid → Bool
action_below s u v = leads same_uid (parents_of_action s.actions) (length (keys_of s.actions)) u v

-- Whether one or more links lead from the one entity type to the other (Cedar documentation, JSON schema format:
-- memberOfTypes).
abbrev pub entity_type_below : SchemaTree → List ℕ → List ℕ → Bool
entity_type_below s m n = leads bytes_eq (parents_of_type s.entities) (length (keys_of s.entities)) m n

-- All that some action is a direct member of (Cedar documentation, JSON schema format: memberOf).
abbrev pub all_parents : List (Uid × ActionTree) → List Uid
all_parents [] = []
all_parents (a ∷ rest) = a.1.parents ++ all_parents rest

-- Whether the action is below some action of the type (own).
abbrev pub is_below_of : SchemaTree → Uid → List ℕ → Bool
is_below_of s u n = list_any (λ v. bytes_eq v.ty n && action_below s u v) (all_parents s.actions)

-- Whether some action of the one type is below some action of the other (own).
abbrev pub action_type_below : SchemaTree → List ℕ → List ℕ → Bool
action_type_below s m n = list_any (λ u. bytes_eq u.ty m && is_below_of s u n) (keys_of s.actions)

-- Whether the one type descends from the other (own).
abbrev pub type_below : SchemaTree → List ℕ → List ℕ → Bool
type_below s m n = entity_type_below s m n || action_type_below s m n

-- ---- the actions as a world

-- The entity of an action: no attributes, and its direct parents (Cedar documentation, entities: actions).
abbrev pub action_entity : Uid × ActionTree → EntityTree
action_entity a = record { uid = a.0; attributes = []; parents = a.1.parents }

-- Those of all actions, which every store holds (own).
abbrev pub action_entities : SchemaTree → World
action_entities s = map action_entity s.actions

-- ---- laws

-- The test for declared actions is true exactly where the action is declared (own).
abbrev pub ActionsAreDecided : Type 0
ActionsAreDecided = (s : SchemaTree) (u : Uid) → Decides (is_action s u) (IsAction s u)

-- The test for types of declared actions is true exactly where it is the type of a declared action (own).
abbrev pub ActionTypesAreDecided : Type 0
ActionTypesAreDecided = (s : SchemaTree) (n : List ℕ) → Decides (is_action_type s n) (IsActionType s n)

-- The test for descents of actions is true exactly where the relation holds (own).
abbrev pub ActionDescentsAreDecided : Type 0
ActionDescentsAreDecided = (s : SchemaTree) (u v : Uid) → Decides (action_below s u v) (ActionDescends s u v)

-- The test for descents of types is true exactly where the relation holds (own).
abbrev pub TypeDescentsAreDecided : Type 0
TypeDescentsAreDecided = (s : SchemaTree) (m n : List ℕ) → Decides (type_below s m n) (TypeDescends s m n)

-- In the world of the actions what is above an action is what it descends from (own).
abbrev pub ChainsOfActions : Type 0
ChainsOfActions = (s : SchemaTree) (u v : Uid) → Below (action_entities s) u v ↔ ActionDescends s u v
