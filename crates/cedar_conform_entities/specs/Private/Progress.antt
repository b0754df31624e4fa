-- How far the reading of a list has come.
use Rattle.std.specs.Prelude.{◌≡◌, ◌≢◌, ◌↔◌, ◌⊎◌, ℕ, IsTrue, true, false, List, [], ◌∷◌, ◌++◌, Some, Contains}
use Rattle.std.specs.BTreeSet.{BTreeSet, contains, Updates}
use Rattle.serde_json.specs.Data.{Data, Items, no_items, item}
use Rattle.serde_json.specs.Find.{as_array, get_item}
use Rattle.cedar_conform_values.specs.declared.conform_fault.ConformFault.{ConformFault}
use Rattle.cedar_conform_values.specs.declared.conform_fault.ConformFault.TheVariants.{OutOfMemory, DuplicateEntity}
use Rattle.cedar_conform_entities.specs.Denotes.{DenotesEntity, RepeatsAction}
use Rattle.cedar_conform_entities.specs.Entries.{SomeWrites, TwoWrite}
use Rattle.cedar_conform_entities.specs.Faults.{HasEntryFault}
use Rattle.cedar_conform_entities.specs.declared.entry.Entry.{Entry}
use Rattle.cedar_conform_entities.specs.declared.entry.Entry.TheVariants.{Entity, Action}
use Rattle.base_json.specs.JsonTree.{json_of}
use Rattle.cedar_schema_spec.specs.Declarations.{action_entities}
use Rattle.cedar_schema_spec.specs.SchemaTree.{SchemaTree}
use Rattle.cedar_value.specs.Order.{uid_cmp}
use Rattle.cedar_value.specs.World.{World, EntityTree}
use Rattle.cedar_value.specs.declared.uid.Uid.{Uid}

-- the entities of a list, and the uids of the actions that it repeats
pub data DenoteAll (s : SchemaTree) : Items → World → List Uid → Type 0 where
  nothing : DenoteAll s no_items [] []
  entity_first : {d : Data} {e : EntityTree} {ds : Items} {es : World} {us : List Uid} → DenotesEntity s d e → DenoteAll s ds es us → DenoteAll s (item d ds) (e ∷ es) us
  action_first : {d : Data} {u : Uid} {parents : List Uid} {ds : Items} {es : World} {us : List Uid} → RepeatsAction s d u parents → DenoteAll s ds es us → DenoteAll s (item d ds) es (u ∷ us)

-- the uid is in the list, and once more in the rest after it
abbrev pub Twice : List Uid → Uid → Type 0
Twice [] u = ⊥
Twice (x ∷ xs) u = ((x ≡ u) × Contains xs u) ⊎ Twice xs u

-- an entry of the list
abbrev pub IsItem : Items → Data → Type 0
IsItem ds d = (k : ℕ) × (get_item k ds ≡ Some d)

-- what has been read, followed by what is left to read, is all: entities after the first ones, and actions, each of them once,
-- and all of them in the set
pub record Progress (s : SchemaTree) (first : World) (all rest : Items) (w : World) (told : BTreeSet Uid) : Type 0 where
  pub entities : World
  pub is : w ≡ first ++ entities
  pub actions : List Uid
  pub denoted : (fs : World) (vs : List Uid) → DenoteAll s rest fs vs → DenoteAll s all (entities ++ fs) (actions ++ vs)
  pub among : (d : Data) → IsItem rest d → IsItem all d
  pub later : (u : Uid) → TwoWrite rest u → TwoWrite all u
  pub again : (u : Uid) → Contains actions u → SomeWrites rest u → TwoWrite all u
  pub once : (u : Uid) → ¬ Twice actions u
  pub are_told : (u : Uid) → IsTrue (contains uid_cmp told u) ↔ Contains actions u

-- the entities after the first ones are those of a list
pub record IsRead (s : SchemaTree) (first : World) (ds : Items) (w : World) : Type 0 where
  pub entities : World
  pub is : w ≡ first ++ entities
  pub actions : List Uid
  pub denoted : DenoteAll s ds entities actions
  pub once : (u : Uid) → ¬ Twice actions u

-- the bytes are a list, whose entities come after the schema's actions
pub record AreRead (s : SchemaTree) (bytes : List ℕ) (w : World) : Type 0 where
  pub json : Data
  pub is_json : json_of bytes ≡ Some json
  pub entries : Items
  pub list : as_array json ≡ Some entries
  pub read : IsRead s (action_entities s) entries w

-- the fault of an entry, or two entries write one uid
pub data HasListFault (s : SchemaTree) (ds : Items) : ConformFault → Type 0 where
  of_entry : {d : Data} {f : ConformFault} → IsItem ds d → HasEntryFault s d f → HasListFault s ds f
  written_twice : {u : Uid} → TwoWrite ds u → HasListFault s ds (DuplicateEntity u)

-- a refusal of a list
abbrev pub RefusesList : SchemaTree → Items → ConformFault → Type 0
RefusesList s ds f = f ≢ OutOfMemory → HasListFault s ds f

-- an entity is appended to the others, and an action is put into the set
abbrev pub Entered : Entry → World → World → BTreeSet Uid → BTreeSet Uid → Type 0
Entered (Entity e) old new told now = (new ≡ old ++ e ∷ []) × (now ≡ told)
Entered (Action u) old new told now = (new ≡ old) × (contains uid_cmp told u ≡ false) × Updates uid_cmp told now u true

-- an action is in the set already
abbrev pub IsToldTwice : Entry → BTreeSet Uid → ConformFault → Type 0
IsToldTwice (Entity e) told f = ⊥
IsToldTwice (Action u) told f = (f ≡ DuplicateEntity u) × (contains uid_cmp told u ≡ true)

abbrev pub RefusesTwice : Entry → BTreeSet Uid → ConformFault → Type 0
RefusesTwice entry told f = f ≢ OutOfMemory → IsToldTwice entry told f
