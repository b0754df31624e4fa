-- What no list of entities may have (Cedar language reference, entities).
use Rattle.std.specs.Prelude.{◌≡◌, ℕ, ◌<◌, List, Some, map}
use Rattle.std.specs.List.{slice_get}
use Rattle.cedar_value.specs.World.{World, Below}
use Rattle.cedar_value.specs.declared.uid.Uid.{Uid}

-- The uids of the entities, in order (Cedar language reference, entities).
abbrev pub uids_of : World → List Uid
uids_of w = map (λ e. e.uid) w

-- Two places of the list hold an entity with this uid (Cedar language reference, entities).
abbrev pub StandsTwice : World → Uid → Type 0
StandsTwice w u = (i : ℕ) × (j : ℕ) × (i < j) × (slice_get (uids_of w) i ≡ Some u) × (slice_get (uids_of w) j ≡ Some u)

-- No uid is repeated (Cedar language reference, entities).
abbrev pub AreUidsDistinct : World → Type 0
AreUidsDistinct w = (u : Uid) → ¬ StandsTwice w u

-- Nothing is below itself (Cedar language reference, hierarchy).
abbrev pub IsAcyclic : World → Type 0
IsAcyclic w = (u : Uid) → ¬ Below w u u
