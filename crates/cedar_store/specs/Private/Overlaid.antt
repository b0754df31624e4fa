-- What a store keeps of changes over the entities that were read whole.
use Rattle.std.specs.Prelude.{◌≡◌, ◌⊎◌, ◌↔◌, ℕ, List, [], Some, Contains, IsTrue, is_some}
use Rattle.cedar_value.specs.World.{Below, EntityTree, World, has_entity, parents_of}
use Rattle.cedar_value.specs.declared.uid.Uid.{Uid}
use Rattle.cedar_store.specs.Changes.{changed}
use Rattle.cedar_store.specs.Entities.{IsAcyclic}
use Rattle.cedar_store.specs.Private.Based.{BaseTree, IsMarked}
use Rattle.cedar_store.specs.Private.Changing.{ChangeTree, change_of, removed_of, upserted_of, upsert_in}
use Rattle.cedar_store.specs.Private.Kept.{in_row, number_in}

-- the world after the changes
abbrev pub world_over : World → List ChangeTree → World
world_over w cs = changed w (removed_of cs) (upserted_of cs)

-- the part of the world that is kept apart has the uid
abbrev pub IsSettled : World → Uid → Type 0
IsSettled part u = IsTrue (has_entity part u)

-- the uid has a number
abbrev pub IsNumbered : BaseTree → Uid → Type 0
IsNumbered b u = IsTrue (is_some (number_in b.keys u))

-- each uid with a number is marked, or has the parents that it had before the changes
abbrev pub AreMarked : BaseTree → List ChangeTree → List ℕ → Type 0
AreMarked b cs marks = (u : Uid) → IsNumbered b u → IsTrue (in_row b.keys marks u) ⊎ (parents_of (world_over b.world cs) u ≡ parents_of b.world u)

-- what the part has is below the same uids there and in the world
abbrev pub AreSettled : World → World → Type 0
AreSettled w part = (u v : Uid) → IsSettled part u → Below part u v ↔ Below w u v

-- the part has the uid, or the uid has a number
abbrev pub IsPlaced : BaseTree → World → Uid → Type 0
IsPlaced b part u = IsSettled part u ⊎ IsNumbered b u

-- the uid is noted
abbrev pub IsNoted : List ChangeTree → Uid → Type 0
IsNoted notes u = IsTrue (is_some (change_of notes u))

-- the uid has no parents, and had none before the changes
abbrev pub IsBare : BaseTree → List ChangeTree → Uid → Type 0
IsBare b cs u = (parents_of (world_over b.world cs) u ≡ []) × (parents_of b.world u ≡ [])

-- the part has the uid, or the uid has a number, or it is noted
abbrev pub IsLinked : BaseTree → World → List ChangeTree → Uid → Type 0
IsLinked b part notes u = IsPlaced b part u ⊎ IsNoted notes u

-- each parent of an entity that is upserted is in the part, has a number, or is noted
abbrev pub AreParentsKnown : BaseTree → List ChangeTree → World → List ChangeTree → Type 0
AreParentsKnown b cs part notes = (u p : Uid) (e : EntityTree) → upsert_in (change_of cs u) ≡ Some e → Contains e.parents p → IsLinked b part notes p

-- what is noted is in the part, has a number, or has nothing above it
abbrev pub AreNotesRight : BaseTree → List ChangeTree → World → List ChangeTree → Type 0
AreNotesRight b cs part notes = (p : Uid) → IsNoted notes p → IsPlaced b part p ⊎ IsBare b cs p

-- the part has each uid with a number that is marked, or below a uid that is marked
abbrev pub AreMarkedSettled : BaseTree → List ℕ → World → Type 0
AreMarkedSettled b marks part = (p : Uid) → IsNumbered b p → IsMarked b marks p → IsSettled part p

-- what a store keeps
pub record IsOverlaid (b : BaseTree) (cs : List ChangeTree) (marks : List ℕ) (part : World) (notes : List ChangeTree) : Type 0 where
  pub acyclic : IsAcyclic (world_over b.world cs)
  pub marked : AreMarked b cs marks
  pub settled : AreSettled (world_over b.world cs) part
  pub parents : AreParentsKnown b cs part notes
  pub noted : AreNotesRight b cs part notes
  pub below_marked : AreMarkedSettled b marks part
