-- The results of the parts of reading changes.
use Rattle.std.specs.Prelude.{◌≡◌, ◌≢◌, ◌⊎◌, ℕ, IsTrue, true, false, List, [], ◌∷◌, ◌++◌, Some, Contains}
use Rattle.std.specs.BTreeSet.{BTreeSet, contains, Updates}
use Rattle.serde_json.specs.Data.{Data, Items}
use Rattle.cedar_conform_values.specs.declared.conform_fault.ConformFault.{ConformFault}
use Rattle.cedar_conform_values.specs.declared.conform_fault.ConformFault.TheVariants.{OutOfMemory, ActionDiffers, DuplicateEntity, Cycle}
use Rattle.cedar_conform_entities.specs.Changes.{DenotesChanges, HasChangesFault, IsActionUid, IsRemovedTwice, BytesHaveChangesFault}
use Rattle.cedar_conform_entities.specs.Denotes.{DenoteEntities}
use Rattle.cedar_conform_entities.specs.Entries.{TwoWrite}
use Rattle.cedar_conform_entities.specs.declared.entry.Entry.{Entry}
use Rattle.cedar_conform_entities.specs.declared.entry.Entry.TheVariants.{Entity, Action}
use Rattle.base_json.specs.JsonTree.{json_of}
use Rattle.cedar_schema_spec.specs.SchemaTree.{SchemaTree}
use Rattle.cedar_store.specs.Changes.{changed}
use Rattle.cedar_store.specs.Entities.{StandsTwice}
use Rattle.cedar_value.specs.Order.{uid_cmp}
use Rattle.cedar_value.specs.World.{World, Below}
use Rattle.cedar_value.specs.declared.uid.Uid.{Uid}

-- a uid that was not in the set is put into it
abbrev pub IsNoted : BTreeSet Uid → BTreeSet Uid → Uid → Type 0
IsNoted noted now u = (contains uid_cmp noted u ≡ false) × Updates uid_cmp noted now u true

-- a uid is in the set already
abbrev pub RefusesNoted : BTreeSet Uid → Uid → ConformFault → Type 0
RefusesNoted noted u f = f ≢ OutOfMemory → (f ≡ DuplicateEntity u) × (contains uid_cmp noted u ≡ true)

-- the uid that an entry writes
abbrev pub uid_of_entry : Entry → Uid
uid_of_entry (Entity e) = e.uid
uid_of_entry (Action u) = u

-- the entities, and after them the one of an entry
abbrev pub appended : World → Entry → World
appended w (Entity e) = w ++ e ∷ []
appended w (Action u) = w

-- what two of all write is what two of the rest write, or what is noted and some of the rest writes
pub record OnceBut (all two some : Uid → Type 0) (noted : BTreeSet Uid) : Type 0 where
  pub later : (u : Uid) → two u → all u
  pub again : (u : Uid) → IsTrue (contains uid_cmp noted u) → some u → all u
  pub left : (u : Uid) → all u → two u ⊎ (IsTrue (contains uid_cmp noted u) × some u)

-- the entries denote the entities, and no two of them write one uid
pub record AreUpserts (s : SchemaTree) (entries : Items) (upserted : World) : Type 0 where
  pub denoted : DenoteEntities s entries upserted
  pub distinct : (u : Uid) → ¬ TwoWrite entries u

-- none is that of an action, and none is there twice
pub record AreRemovals (s : SchemaTree) (removed : List Uid) : Type 0 where
  pub no_actions : (u : Uid) → Contains removed u → ¬ IsActionUid s u
  pub once : (u : Uid) → ¬ IsRemovedTwice removed u

-- what is wrong with the uids to remove
pub data HasRemovalsFault (s : SchemaTree) (removed : List Uid) : ConformFault → Type 0 where
  an_action : {u : Uid} → Contains removed u → IsActionUid s u → HasRemovalsFault s removed ActionDiffers
  twice : {u : Uid} → IsRemovedTwice removed u → HasRemovalsFault s removed (DuplicateEntity u)

abbrev pub RefusesRemovals : SchemaTree → List Uid → ConformFault → Type 0
RefusesRemovals s removed f = f ≢ OutOfMemory → HasRemovalsFault s removed f

-- a refusal of changes, whatever the world is
abbrev pub RefusesChanges : SchemaTree → Data → ConformFault → Type 0
RefusesChanges s d f = f ≢ OutOfMemory → (w : World) → HasChangesFault s w d f

-- the bytes are a JSON of changes
abbrev pub AreChangesOf : SchemaTree → List ℕ → List Uid → World → Type 0
AreChangesOf s bytes removed upserted = (d : Data) × (json_of bytes ≡ Some d) × DenotesChanges s d removed upserted

abbrev pub RefusesChangesOf : SchemaTree → List ℕ → ConformFault → Type 0
RefusesChangesOf s bytes f = f ≢ OutOfMemory → (w : World) → BytesHaveChangesFault s w bytes f

-- a refusal of a store that is changed
abbrev pub HasStoreChangesFault : World → List Uid → World → ConformFault → Type 0
HasStoreChangesFault w removed upserted OutOfMemory = Unit {0}
HasStoreChangesFault w removed upserted (DuplicateEntity u) = StandsTwice upserted u
HasStoreChangesFault w removed upserted (Cycle u) = Below (changed w removed upserted) u u
HasStoreChangesFault w removed upserted _ = ⊥
