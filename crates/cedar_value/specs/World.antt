-- Worlds of entities, and what is above an entity (Cedar language reference, entities and hierarchy; cedar-spec, Lean:
-- Cedar.Spec.Entities).
use Rattle.std.specs.Prelude.{ℕ, Bool, false, List, [], ◌∷◌, length, Option, Some, None, is_some, unwrap_or, if◌then◌else◌}
use Rattle.std.specs.Option.{option_map}
use Rattle.std.specs.List.{list_any}
pub use Rattle.base_reach.specs.Closure.{LeadsTo}
unfoldable pub use Rattle.base_reach.specs.Closure.{leads}
use Rattle.cedar_value.specs.Datum.{Datum, uid, same_uid}
use Rattle.cedar_value.specs.declared.uid.Uid.{Uid}

-- An entity: its uid, its attributes with their keys ascending, and its direct parents (Cedar language reference,
-- entities).
pub record EntityTree : Type 0 where
  pub uid : Uid
  pub attributes : List (List ℕ × Datum)
  pub parents : List Uid

-- A finite map from uids to entities. Where a uid is repeated, its first entity counts (Cedar language reference, entities).
abbrev pub World : Type 0
World = List EntityTree

-- The entity with a uid, where the world has it (Cedar language reference, entities).
abbrev pub entry_of : World → Uid → Option EntityTree
entry_of [] u = None
entry_of (e ∷ w) u = if same_uid e.uid u then Some e else entry_of w u

-- Whether the world has the entity (Cedar language reference, entities).
abbrev pub has_entity : World → Uid → Bool
has_entity w u = is_some (entry_of w u)

-- Its attributes, where the world has it (Cedar language reference, entities).
abbrev pub attributes_of : World → Uid → Option (List (List ℕ × Datum))
attributes_of w u = option_map (λ e. e.attributes) (entry_of w u)

-- Its direct parents, and none where the world lacks it (Cedar language reference, hierarchy).
abbrev pub parents_of : World → Uid → List Uid
parents_of w u = unwrap_or (option_map (λ e. e.parents) (entry_of w u)) []

-- The one is below the other: a chain of one or more links leads up, each to a direct parent (Cedar language reference,
-- `in`).
abbrev pub Below : World → Uid → Uid → Type 0
Below w = LeadsTo (parents_of w)

-- The test for `Below`, with which evaluation computes. As many links as there are entities are enough;
-- `below_is_a_chain_of_links` ties the two (Cedar language reference, `in`).
unfoldable pub below : World → Uid → Uid → Bool
below w u v = leads same_uid (parents_of w) (length w) u v

-- Whether the entity is below a value. Nothing is below a value that is not a uid (Cedar language reference, `in`).
abbrev pub below_datum : World → Uid → Datum → Bool
below_datum w u (uid v) = below w u v
below_datum w u _ = false

-- Whether the entity is below a member of a set (Cedar language reference, `in` with a set).
abbrev pub below_any : World → Uid → List Datum → Bool
below_any w u members = list_any (below_datum w u) members
