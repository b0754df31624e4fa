-- What a call of more changes makes of what a store keeps.
use Rattle.std.specs.Prelude.{◌≡◌, ◌⊎◌, ℕ, true, false, List, Option, Some, None, Contains, IsTrue, if◌then◌else◌}
use Rattle.std.specs.List.{list_any}
use Rattle.cedar_value.specs.Datum.{same_uid}
use Rattle.cedar_value.specs.World.{Below, EntityTree, World, entry_of, parents_of}
use Rattle.cedar_value.specs.declared.uid.Uid.{Uid}
use Rattle.cedar_store.specs.Changes.{is_changed}
use Rattle.cedar_store.specs.Entities.{IsAcyclic}
use Rattle.cedar_store.specs.Private.Based.{BaseTree}
use Rattle.cedar_store.specs.Private.Changing.{ChangeTree, Seen, only, seen}
use Rattle.cedar_store.specs.Private.Kept.{in_row}
use Rattle.cedar_store.specs.Private.Overlaid.{IsBare, IsLinked, IsNoted, IsNumbered, IsPlaced, IsSettled, AreNotesRight, AreParentsKnown, AreSettled, AreMarkedSettled, world_over}
use Rattle.cedar_store.specs.declared.store_fault.StoreFault.{StoreFault}
use Rattle.cedar_store.specs.declared.store_fault.StoreFault.TheVariants.{OutOfMemory, DuplicateEntity, Cycle}

-- the change that removes the uid
abbrev pub removal : Uid → ChangeTree
removal u = record { uid = u; entity = None }

-- what changes show of the uid after the removals
abbrev pub after_removals : List Uid → (Uid → Seen) → Uid → Seen
after_removals removed old u = if list_any (same_uid u) removed then only None else old u

-- what changes say of the uid after the entity with it, if there is one, is upserted
abbrev pub after_upsert : Uid → Option EntityTree → Option ChangeTree → Option ChangeTree
after_upsert u None old = old
after_upsert u (Some e) old = Some (record { uid = u; entity = Some e })

-- of the uids that the call names, the new changes show what it upserts, and of each other uid what the old ones show
pub record IsAfterCall (w : World) (old : List ChangeTree) (removed : List Uid) (upserted : World) (new : List ChangeTree) : Type 0 where
  pub kept : (u : Uid) → is_changed removed upserted u ≡ false → seen w new u ≡ seen w old u
  pub named : (u : Uid) → is_changed removed upserted u ≡ true → seen w new u ≡ only (entry_of upserted u)

-- each uid that was marked still is, and each with a number that the call names is
pub record AreMarkedToo (b : BaseTree) (removed : List Uid) (upserted : World) (old new : List ℕ) : Type 0 where
  pub kept : (u : Uid) → IsTrue (in_row b.keys old u) → IsTrue (in_row b.keys new u)
  pub named : (u : Uid) → is_changed removed upserted u ≡ true → IsNumbered b u → IsTrue (in_row b.keys new u)

-- what something is below has the same parents before and after the call
abbrev pub DoParentsStay : BaseTree → List ChangeTree → World → List ChangeTree → World → Uid → Type 0
DoParentsStay b cs part notes upserted u = IsLinked b part notes u → parents_of upserted u ≡ parents_of (world_over b.world cs) u

-- what something is below and the call names keeps its parents, and each parent of what the call upserts is known
pub record DoLinksStay (b : BaseTree) (cs : List ChangeTree) (part : World) (notes : List ChangeTree) (removed : List Uid) (upserted : World) : Type 0 where
  pub same : (u : Uid) → is_changed removed upserted u ≡ true → DoParentsStay b cs part notes upserted u
  pub known : (u p : Uid) (e : EntityTree) → entry_of upserted u ≡ Some e → Contains e.parents p → IsLinked b part notes p

-- the uid is in the part or has a number, or it is noted and has nothing above it
abbrev pub IsResettled : BaseTree → List ChangeTree → World → List ChangeTree → Uid → Type 0
IsResettled b cs part notes p = IsPlaced b part p ⊎ (IsNoted notes p × IsBare b cs p)

-- what was noted still is, and what else is to be known after the call is settled again: the old part, and of the uids of the call what is noted and their parents
pub record AreNotesKept (b : BaseTree) (cs : List ChangeTree) (old : World) (notes : List ChangeTree) (uids : List Uid) (new : World) (notes_new : List ChangeTree) : Type 0 where
  pub settled : (p : Uid) → IsSettled old p → IsResettled b cs new notes_new p
  pub parents : (u p : Uid) → Contains uids u → Contains (parents_of (world_over b.world cs) u) p → IsResettled b cs new notes_new p
  pub upserted : (u : Uid) → Contains uids u → IsNoted notes u → IsResettled b cs new notes_new u
  pub kept : (p : Uid) → IsNoted notes p → IsNoted notes_new p
  pub told : (p : Uid) → IsNoted notes_new p → IsNoted notes p ⊎ IsResettled b cs new notes_new p

-- the part is right and has no cycle, and with the notes it has each uid that it must have after the call
pub record AreSettledAnew (b : BaseTree) (cs : List ChangeTree) (marks : List ℕ) (old : World) (notes : List ChangeTree) (uids : List Uid) (new : World) (notes_new : List ChangeTree) : Type 0 where
  pub settled : AreSettled (world_over b.world cs) new
  pub acyclic : IsAcyclic new
  pub known : AreNotesKept b cs old notes uids new notes_new ⊎ (AreParentsKnown b cs new notes_new × AreNotesRight b cs new notes_new)
  pub below_marked : AreMarkedSettled b marks new

-- the fault is that of a cycle of the world, or says nothing of it
abbrev pub IsCycleThere : World → StoreFault → Type 0
IsCycleThere w OutOfMemory = Unit {0}
IsCycleThere w (DuplicateEntity u) = ⊥
IsCycleThere w (Cycle u) = Below w u u
