-- A schema, as its declarations (cedar-spec, Lean: Cedar.Validation.Schema).
use Rattle.std.specs.Prelude.{Contains, ℕ, List, [], map, flat_map, Option, option_map, unwrap_or}
use Rattle.std.specs.Map.{lookup}
use Rattle.std.specs.BTreeMap.{is_at}
use Rattle.cedar_value.specs.Order.{text_cmp, uid_cmp}
use Rattle.cedar_value.specs.declared.uid.Uid.{Uid}
use Rattle.cedar_schema_types.specs.Types.{TypeTree}
use Rattle.cedar_schema_spec.specs.declared.environment.Environment.{Environment}

-- An entity type: the types that its entities may be direct members of, and the shape of their attributes (Cedar
-- documentation, JSON schema format: entityTypes).
pub record EntityTypeTree : Type 0 where
  pub parents : List (List ℕ)
  pub shape : TypeTree

-- An action: its direct parents, the types of the principals and of the resources that it applies to, and the type of its
-- context (Cedar documentation, JSON schema format: actions).
pub record ActionTree : Type 0 where
  pub parents : List Uid
  pub principals : List (List ℕ)
  pub resources : List (List ℕ)
  pub context : TypeTree

-- A schema: the entity types with their names, the actions with their uids, and the ids of the entities of each enumerated type
-- (cedar-spec, Lean: Cedar.Validation.Schema; Cedar RFC 53).
pub record SchemaTree : Type 0 where
  pub entities : List (List ℕ × EntityTypeTree)
  pub actions : List (Uid × ActionTree)
  pub enumerated : List (List ℕ × List (List ℕ))

-- The direct parents of an entity type, none of one that is not declared (Cedar documentation, JSON schema format:
-- memberOfTypes).
abbrev pub parents_of_type : List (List ℕ × EntityTypeTree) → List ℕ → List (List ℕ)
parents_of_type entities n = unwrap_or (option_map (λ e. e.parents) (lookup (is_at (text_cmp n)) entities)) []

-- The direct parents of an action, none of one that is not declared (Cedar documentation, JSON schema format: memberOf).
abbrev pub parents_of_action : List (Uid × ActionTree) → Uid → List Uid
parents_of_action actions u = unwrap_or (option_map (λ a. a.parents) (lookup (is_at (uid_cmp u)) actions)) []

-- ---- the environments: an action with a type of principals and a type of resources, ascending in this order

-- The environments: each action with each type of its principals and each type of its resources, ascending in this order (Cedar
-- documentation, JSON schema format: appliesTo).
abbrev pub environments_of : List (Uid × ActionTree) → List Environment
environments_of actions =
    flat_map (λ (x : Uid × ActionTree). flat_map (λ p. map (λ r. record { action = x.0; principal = p; resource = r; context = x.1.context }) x.1.resources) x.1.principals) actions

-- What a schema declares of an action, none where it is not declared (Cedar documentation, JSON schema format: actions).
abbrev pub action_at : SchemaTree → Uid → Option ActionTree
action_at s u = lookup (is_at (uid_cmp u)) s.actions

-- The shape of an entity type, none where it is not declared (Cedar documentation, JSON schema format: shape).
abbrev pub shape_of : SchemaTree → List ℕ → Option TypeTree
shape_of s n = option_map (λ e. e.shape) (lookup (is_at (text_cmp n)) s.entities)

-- The ids of the entities of an enumerated type, none where the type is not enumerated (Cedar RFC 53).
abbrev pub ids_of : SchemaTree → List ℕ → Option (List (List ℕ))
ids_of s n = lookup (is_at (text_cmp n)) s.enumerated

-- The actions have the environment with these types and this context (Cedar documentation, JSON schema format: appliesTo).
abbrev pub HasEnvironment : List (Uid × ActionTree) → Uid → List ℕ → List ℕ → TypeTree → Type 0
HasEnvironment actions u p r t = Contains (environments_of actions) (record { action = u; principal = p; resource = r; context = t })

-- The actions have no environment with these types (Cedar documentation, JSON schema format: appliesTo).
abbrev pub HasNoEnvironment : List (Uid × ActionTree) → Uid → List ℕ → List ℕ → Type 0
HasNoEnvironment actions u p r = (t : TypeTree) → ¬ HasEnvironment actions u p r t
