-- The changes of a world, as a list.
use Rattle.std.specs.Prelude.{◌≡◌, ◌||◌, Bool, false, List, [], ◌∷◌, Option, Some, None, is_none, is_some, if◌then◌else◌}
use Rattle.cedar_value.specs.Datum.{same_uid}
use Rattle.cedar_value.specs.World.{EntityTree, World, entry_of, has_entity}
use Rattle.cedar_value.specs.declared.uid.Uid.{Uid}

-- what changes say of a uid: the entity that is upserted, or none where the uid is removed
pub record ChangeTree : Type 0 where
  pub uid : Uid
  pub entity : Option EntityTree

-- an entity that is upserted has this uid
abbrev pub IsOfUid : Uid → Option EntityTree → Type 0
IsOfUid u None = Unit {0}
IsOfUid u (Some e) = e.uid ≡ u

abbrev pub IsChangeOfUid : ChangeTree → Type 0
IsChangeOfUid c = IsOfUid c.uid c.entity

-- each change has P
abbrev pub EachChange : (ChangeTree → Type 0) → List ChangeTree → Type 0
EachChange P [] = Unit {0}
EachChange P (c ∷ cs) = P c × EachChange P cs

-- the first change of the uid
abbrev pub change_of : List ChangeTree → Uid → Option ChangeTree
change_of [] u = None
change_of (c ∷ cs) u = if same_uid c.uid u then Some c else change_of cs u

-- no two changes have one uid: none that comes later has the uid of an earlier one
abbrev pub AreChangesDistinct : List ChangeTree → Type 0
AreChangesDistinct [] = Unit {0}
AreChangesDistinct (c ∷ cs) = (change_of cs c.uid ≡ None) × AreChangesDistinct cs

abbrev pub removed_by : Uid → Option EntityTree → List Uid → List Uid
removed_by u None us = u ∷ us
removed_by u (Some e) us = us

-- the uids that are removed
abbrev pub removed_of : List ChangeTree → List Uid
removed_of [] = []
removed_of (c ∷ cs) = removed_by c.uid c.entity (removed_of cs)

abbrev pub upserted_by : Option EntityTree → World → World
upserted_by None w = w
upserted_by (Some e) w = e ∷ w

-- the entities that are upserted
abbrev pub upserted_of : List ChangeTree → World
upserted_of [] = []
upserted_of (c ∷ cs) = upserted_by c.entity (upserted_of cs)

-- the entity that a change of the uid, if there is one, upserts
abbrev pub upsert_in : Option ChangeTree → Option EntityTree
upsert_in None = None
upsert_in (Some c) = c.entity

-- whether there is a change of the uid, and it removes it
abbrev pub is_removal : Option ChangeTree → Bool
is_removal None = false
is_removal (Some c) = is_none c.entity

-- ---- changes over entities that were read whole

-- the entity that a change of the uid, if there is one, leaves
abbrev pub told_entry : Option ChangeTree → Option EntityTree → Option EntityTree
told_entry None e = e
told_entry (Some c) e = c.entity

-- what changes show of a uid: the entity that there is, and the one that they upsert
pub record Seen : Type 0 where
  pub entry : Option EntityTree
  pub upsert : Option EntityTree

-- this entity, if it is one, is there and upserted, and no other
abbrev pub only : Option EntityTree → Seen
only e = record { entry = e; upsert = e }

-- what the changes show of the uid
abbrev pub seen : World → List ChangeTree → Uid → Seen
seen w cs u = record { entry = told_entry (change_of cs u) (entry_of w u); upsert = upsert_in (change_of cs u) }

-- whether the change shows another entity than there is without it: it upserts one, or removes one that was read whole
abbrev pub is_needed : World → ChangeTree → Bool
is_needed w c = is_some c.entity || has_entity w c.uid
