-- What descends from what.
use Rattle.std.specs.Prelude.{◌≡◌, ◌⊎◌, ℕ, List}
use Rattle.base_reach.specs.Closure.{LeadsTo}
use Rattle.cedar_value.specs.declared.uid.Uid.{Uid}
use Rattle.cedar_schema_spec.specs.SchemaTree.{SchemaTree, parents_of_type, parents_of_action}

-- One or more links of `memberOf` lead from the one action up to the other (Cedar language reference, entities and
-- hierarchy).
abbrev pub ActionDescends : SchemaTree → Uid → Uid → Type 0
ActionDescends s = LeadsTo (parents_of_action s.actions)

-- One or more links of `memberOfTypes` lead from the one entity type up to the other (Cedar documentation, JSON schema
-- format: memberOfTypes).
abbrev pub EntityTypeDescends : SchemaTree → List ℕ → List ℕ → Type 0
EntityTypeDescends s = LeadsTo (parents_of_type s.entities)

-- Some action of the one type descends from some action of the other (own).
abbrev pub ActionTypeDescends : SchemaTree → List ℕ → List ℕ → Type 0
ActionTypeDescends s low high = (u : Uid) × (v : Uid) × (u.ty ≡ low) × (v.ty ≡ high) × ActionDescends s u v

-- The one type descends from the other: an entity type by its links, an action type by its actions (Cedar documentation, JSON
-- schema format: memberOfTypes; memberOf).
abbrev pub TypeDescends : SchemaTree → List ℕ → List ℕ → Type 0
TypeDescends s low high = EntityTypeDescends s low high ⊎ ActionTypeDescends s low high
