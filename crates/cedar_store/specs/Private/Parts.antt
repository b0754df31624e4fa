-- The part of a world above some uids.
use Rattle.std.specs.Prelude.{◌≡◌, ◌⊎◌, ◌++◌, [], List, Some, Contains}
use Rattle.cedar_value.specs.World.{EntityTree, World, parents_of}
use Rattle.cedar_value.specs.declared.uid.Uid.{Uid}
use Rattle.cedar_store.specs.Entities.{AreUidsDistinct, uids_of}
use Rattle.cedar_store.specs.Private.Based.{BaseTree}
use Rattle.cedar_store.specs.Private.Changing.{ChangeTree, EachChange}
use Rattle.cedar_store.specs.Private.Overlaid.{IsBare, IsNoted, IsNumbered, IsSettled, world_over}

-- each parent of an entity that the change upserts has a number, or is in the list
abbrev pub HasParentsDue : BaseTree → List Uid → ChangeTree → Type 0
HasParentsDue b due c = (e : EntityTree) → c.entity ≡ Some e → (p : Uid) → Contains e.parents p → ¬ IsNumbered b p → Contains due p

-- the list has what the old part has, and of these uids what is noted and their parents, but for those with a number
pub record AreDueToo (b : BaseTree) (cs : List ChangeTree) (old : World) (notes : List ChangeTree) (uids due : List Uid) : Type 0 where
  pub settled : (p : Uid) → IsSettled old p → ¬ IsNumbered b p → Contains due p
  pub parents : (u p : Uid) → Contains uids u → Contains (parents_of (world_over b.world cs) u) p → ¬ IsNumbered b p → Contains due p
  pub noted : (u : Uid) → Contains uids u → IsNoted notes u → Contains due u

-- the notes stay, and the list has what is new, or none stay, and it has the parents of all that is upserted
abbrev pub AreKnownDue : BaseTree → List ChangeTree → World → List ChangeTree → List Uid → List Uid → List ChangeTree → Type 0
AreKnownDue b cs old notes uids due begun = ((begun ≡ notes) × AreDueToo b cs old notes uids due) ⊎ ((begun ≡ []) × EachChange (HasParentsDue b due) cs)

-- the uid is noted, and it is in the list or has nothing above it
abbrev pub IsSifted : BaseTree → List ChangeTree → List Uid → List ChangeTree → Uid → Type 0
IsSifted b cs due notes p = IsNoted notes p × (Contains due p ⊎ IsBare b cs p)

-- the new list is the old one and some more uids, and has these
pub record GainsUids (old uids new : List Uid) : Type 0 where
  pub more : List Uid
  pub appended : new ≡ old ++ more
  pub gained : (u : Uid) → Contains uids u → Contains new u

-- the part has each of the uids and each uid above one, each once, with the parents that it has in the world
pub record IsPartAbove (w : World) (due : List Uid) (part : World) : Type 0 where
  pub distinct : AreUidsDistinct part
  pub same : (u : Uid) → Contains (uids_of part) u → parents_of part u ≡ parents_of w u
  pub closed : (u p : Uid) → Contains (uids_of part) u → Contains (parents_of w u) p → Contains (uids_of part) p
  pub all : (u : Uid) → Contains due u → Contains (uids_of part) u
