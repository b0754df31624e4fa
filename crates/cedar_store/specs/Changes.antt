-- What a world is after changes (Cedar's crate, upsert and removal of entities).
use Rattle.std.specs.Prelude.{◌≡◌, ◌||◌, ◌++◌, Bool, not, List, filter}
use Rattle.std.specs.List.{list_any}
use Rattle.cedar_value.specs.Datum.{same_uid}
use Rattle.cedar_value.specs.World.{World, Below, entry_of, has_entity}
use Rattle.cedar_value.specs.declared.uid.Uid.{Uid}
use Rattle.cedar_store.specs.Entities.{StandsTwice}
use Rattle.cedar_store.specs.declared.store_fault.StoreFault.{StoreFault}
use Rattle.cedar_store.specs.declared.store_fault.StoreFault.TheVariants.{OutOfMemory, DuplicateEntity, Cycle}

-- Whether changes name the uid: it is removed, or an entity with it is upserted (own).
abbrev pub is_changed : List Uid → World → Uid → Bool
is_changed removed upserted u = list_any (same_uid u) removed || has_entity upserted u

-- The world after changes: the entities that they do not name, as before, and then those that are upserted. An entity that is
-- upserted replaces the one with its uid; to remove a uid that is not there changes nothing (own; Cedar's crate,
-- `Entities::upsert_entities` and `Entities::remove_entities`).
abbrev pub changed : World → List Uid → World → World
changed w removed upserted = filter (λ e. not (is_changed removed upserted e.uid)) w ++ upserted

-- The worlds have the same entities: a uid has one entity in both, or none in both (own).
abbrev pub HaveSameEntities : World → World → Type 0
HaveSameEntities v w = (u : Uid) → entry_of v u ≡ entry_of w u

-- The changes have the fault: the uid of a duplicate is upserted twice, that of a cycle is below itself after the changes (own).
abbrev pub IsThereInChanges : World → List Uid → World → StoreFault → Type 0
IsThereInChanges w removed upserted OutOfMemory = Unit {0}
IsThereInChanges w removed upserted (DuplicateEntity u) = StandsTwice upserted u
IsThereInChanges w removed upserted (Cycle u) = Below (changed w removed upserted) u u
