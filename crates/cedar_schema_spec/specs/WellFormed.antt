-- What every schema keeps, on which the soundness of typing rests (cedar-spec, Lean: Cedar.Validation, well-formed schemas).
use Rattle.std.specs.Prelude.{ℕ, List, All, Contains, IsTrue}
use Rattle.std.specs.List.Sorted.{IsStrictlySortedBy}
use Rattle.std.specs.Map.{keys_of, values_of}
use Rattle.std.specs.Ordering.{ordering_then}
use Rattle.std.specs.declared.cmp.Ordering.{Ordering}
use Rattle.cedar_value.specs.Order.{text_cmp, uid_cmp}
use Rattle.cedar_value.specs.declared.uid.Uid.{Uid}
use Rattle.cedar_schema_types.specs.Ordered.{Ascends}
use Rattle.cedar_schema_types.specs.Types.{TypeTree, boolean, long, string, entity, set, record_of, extension, Attributes, no_attributes, attribute, is_record}
use Rattle.cedar_schema_spec.specs.SchemaTree.{SchemaTree, environments_of}
use Rattle.cedar_schema_spec.specs.declared.environment.Environment.{Environment}
use Rattle.cedar_schema_spec.specs.Descents.{ActionDescends}

-- The names of the entity types ascend strictly, and so do the uids of the actions (own).
abbrev pub IsListedInOrder : SchemaTree → Type 0
IsListedInOrder s = IsStrictlySortedBy text_cmp (keys_of s.entities) × IsStrictlySortedBy uid_cmp (keys_of s.actions)

-- The order of two environments: first the uids of the actions, then the principals' types, then the resources' types (own).
abbrev pub environment_cmp : Environment → Environment → Ordering
environment_cmp x y = ordering_then (uid_cmp x.action y.action) (ordering_then (text_cmp x.principal y.principal) (text_cmp x.resource y.resource))

-- The environments ascend strictly in this order, so that each is there once (own).
abbrev pub AreEnvironmentsInOrder : SchemaTree → Type 0
AreEnvironmentsInOrder s = IsStrictlySortedBy environment_cmp (environments_of s.actions)

-- Each direct parent of an entity type is a declared entity type (Cedar documentation, JSON schema format: memberOfTypes).
abbrev pub AreParentsDeclared : SchemaTree → Type 0
AreParentsDeclared s = All (λ e. All (Contains (keys_of s.entities)) e.parents) (values_of s.entities)

-- No action's type is a declared entity type (own; it follows from 306).
abbrev pub AreTypesApart : SchemaTree → Type 0
AreTypesApart s = All (λ u. ¬ Contains (keys_of s.entities) u.ty) (keys_of s.actions)

-- Each direct parent of an action is a declared action (Cedar documentation, JSON schema format: memberOf).
abbrev pub AreMembersDeclared : SchemaTree → Type 0
AreMembersDeclared s = All (λ a. All (Contains (keys_of s.actions)) a.parents) (values_of s.actions)

-- What is above an action is declared, and so is the action; none is above itself (Cedar documentation, JSON schema format:
-- memberOf).
abbrev pub IsHierarchy : SchemaTree → Type 0
IsHierarchy s =
    ((u v : Uid) → ActionDescends s u v → Contains (keys_of s.actions) u × Contains (keys_of s.actions) v) × ((u : Uid) → ¬ ActionDescends s u u)

-- A type of records whose names ascend at every depth (own).
abbrev pub IsOrderedRecord : TypeTree → Type 0
IsOrderedRecord t = IsTrue (is_record t) × Ascends t

-- Each shape is a type of records (Cedar documentation, JSON schema format: shape).
abbrev pub AreShapesOrdered : SchemaTree → Type 0
AreShapesOrdered s = All (λ e. IsOrderedRecord e.shape) (values_of s.entities)

-- The context of each environment is a type of records: it is that of its action, so this follows from the contexts of all
-- actions (Cedar documentation, JSON schema format: context).
abbrev pub AreContextsOrdered : SchemaTree → Type 0
AreContextsOrdered s = All (λ e. IsOrderedRecord e.context) (environments_of s.actions)

-- The types of principals and of resources that an action applies to ascend strictly, so that none is repeated, and each is a
-- declared entity type (Cedar documentation, JSON schema format: appliesTo).
abbrev pub AreDeclaredTypes : SchemaTree → List (List ℕ) → Type 0
AreDeclaredTypes s names = IsStrictlySortedBy text_cmp names × All (Contains (keys_of s.entities)) names

-- Both lists of types of each action are in order and declared (Cedar documentation, JSON schema format: appliesTo).
abbrev pub AreListsDeclared : SchemaTree → Type 0
AreListsDeclared s = All (λ a. AreDeclaredTypes s a.principals × AreDeclaredTypes s a.resources) (values_of s.actions)

-- The context of each action, whether it has an environment or not, is a type of records whose keys ascend (Cedar
-- documentation, JSON schema format: context).
abbrev pub AreActionContextsOrdered : SchemaTree → Type 0
AreActionContextsOrdered s = All (λ a. IsOrderedRecord a.context) (values_of s.actions)

-- Each entity type that a type names, at every depth, is one of these (cedar-spec, Lean: Cedar.Validation, well-formed types).
abbrev mutual
  pub NamesOnly : List (List ℕ) → TypeTree → Type 0
  NamesOnly names (boolean b) = Unit {0}
  NamesOnly names long = Unit {0}
  NamesOnly names string = Unit {0}
  NamesOnly names (entity n) = Contains names n
  NamesOnly names (set t) = NamesOnly names t
  NamesOnly names (record_of a) = AttributesNameOnly names a
  NamesOnly names (extension t) = Unit {0}

  -- Each entity type that the types of all attributes name is one of these (cedar-spec, Lean: Cedar.Validation, well-formed
  -- types).
  pub AttributesNameOnly : List (List ℕ) → Attributes → Type 0
  AttributesNameOnly names no_attributes = Unit {0}
  AttributesNameOnly names (attribute k r t rest) = NamesOnly names t × AttributesNameOnly names rest

-- Each entity type in a shape or in a context is declared (cedar-spec, Lean: Cedar.Validation, well-formed schemas).
abbrev pub AreTypesDeclared : SchemaTree → Type 0
AreTypesDeclared s = All (λ e. NamesOnly (keys_of s.entities) e.shape) (values_of s.entities) × All (λ a. NamesOnly (keys_of s.entities) a.context) (values_of s.actions)

-- What every schema keeps, except what concerns chains of links (cedar-spec, Lean: Cedar.Validation, well-formed schemas).
pub record IsWellFormed (s : SchemaTree) : Type 0 where
  pub in_order : IsListedInOrder s
  pub apart : AreTypesApart s
  pub entity_parents : AreParentsDeclared s
  pub members : AreMembersDeclared s
  pub shapes : AreShapesOrdered s
  pub lists : AreListsDeclared s
  pub action_contexts : AreActionContextsOrdered s
  pub types_declared : AreTypesDeclared s
