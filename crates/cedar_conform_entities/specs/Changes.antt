-- Which changes of entities a JSON writes, which changed world it denotes, and which faults it has.
use Rattle.std.specs.Prelude.{◌≡◌, ◌⊎◌, ◌||◌, ℕ, ◌<◌, Bool, true, codes, List, Some, None, Contains, MatchOption, unwrap_or}
use Rattle.std.specs.List.{slice_get}
use Rattle.std.specs.Str.{bytes_eq}
use Rattle.serde_json.specs.Data.{Data, array, object, Items, no_items, no_members, member}
use Rattle.serde_json.specs.Find.{get, as_array, get_item}
use Rattle.base_json.specs.JsonTree.{json_of}
use Rattle.cedar_conform_values.specs.Objects.{has_only}
use Rattle.cedar_conform_values.specs.declared.conform_fault.ConformFault.{ConformFault}
use Rattle.cedar_conform_values.specs.declared.conform_fault.ConformFault.TheVariants.{ActionDiffers, Cycle, DuplicateEntity, Json, Shape}
use Rattle.cedar_conform_entities.specs.Denotes.{DenoteEntities}
use Rattle.cedar_conform_entities.specs.Entries.{AreUids, IsActionName, TwoWrite}
use Rattle.cedar_conform_entities.specs.Faults.{HasEntryFault}
use Rattle.cedar_schema_spec.specs.Conformance.{Conforms}
use Rattle.cedar_schema_spec.specs.Declarations.{IsAction}
use Rattle.cedar_schema_spec.specs.SchemaTree.{SchemaTree}
use Rattle.cedar_schema_spec.specs.WellFormed.{AreParentsDeclared, AreTypesApart, IsHierarchy}
use Rattle.cedar_store.specs.Changes.{changed, HaveSameEntities}
use Rattle.cedar_store.specs.Entities.{AreUidsDistinct, IsAcyclic}
use Rattle.cedar_value.specs.World.{World, Below}
use Rattle.cedar_value.specs.declared.uid.Uid.{Uid}

-- ---- what changes write, whatever the schema is

-- The keys of changes (own).
unfoldable pub is_change_key : List ℕ → Bool
is_change_key k = bytes_eq k (codes "upsert") || bytes_eq k (codes "remove")

-- The entries that are upserted, none where the key is absent (own; Cedar's crate, `Entities::upsert_entities`).
abbrev pub upserts_in : Data → Data
upserts_in d = unwrap_or (get (codes "upsert") d) (array no_items)

-- The uids that are removed, none where the key is absent (own; Cedar's crate, `Entities::remove_entities`).
abbrev pub removals_in : Data → Data
removals_in d = unwrap_or (get (codes "remove") d) (array no_items)

-- The JSON of changes that upserts these entries, and removes nothing (own).
abbrev pub upserts_only : Data → Data
upserts_only entries = object (member (codes "upsert") entries no_members)

-- A JSON writes changes: it is an object without other keys, a list of entries to upsert, and a list of uids to remove, each as an
-- object (own).
pub record WritesChanges (d : Data) (entries : Items) (removed : List Uid) : Type 0 where
  pub keys : has_only is_change_key d ≡ true
  pub upserts : as_array (upserts_in d) ≡ Some entries
  pub removals : MatchOption (as_array (removals_in d)) ⊥ (λ ds. AreUids ds removed)

-- Two places of the list hold the uid (own).
abbrev pub IsRemovedTwice : List Uid → Uid → Type 0
IsRemovedTwice removed u = (i : ℕ) × (j : ℕ) × (i < j) × (slice_get removed i ≡ Some u) × (slice_get removed j ≡ Some u)

-- ---- what they denote for a schema

-- The uid is that of an action: the last part of its type is `Action`, or the schema declares it (own; Cedar language reference,
-- actions).
abbrev pub IsActionUid : SchemaTree → Uid → Type 0
IsActionUid s u = IsActionName u.ty ⊎ IsAction s u

-- A JSON denotes changes: its entries denote entities, no list names a uid twice, and no action is removed (own; Cedar
-- documentation, entities and context in JSON).
pub record DenotesChanges (s : SchemaTree) (d : Data) (removed : List Uid) (upserted : World) : Type 0 where
  pub entries : Items
  pub written : WritesChanges d entries removed
  pub denoted : DenoteEntities s entries upserted
  pub distinct : (u : Uid) → ¬ TwoWrite entries u
  pub once : (u : Uid) → ¬ IsRemovedTwice removed u
  pub no_actions : (u : Uid) → Contains removed u → ¬ IsActionUid s u

-- A JSON denotes the second world after the first: it has the entities of the first with the changes that the JSON denotes, each uid
-- once, and nothing is below itself (own).
pub record DenotesChangedWorld (s : SchemaTree) (d : Data) (old new : World) : Type 0 where
  pub removed : List Uid
  pub upserted : World
  pub changes : DenotesChanges s d removed upserted
  pub entities : HaveSameEntities new (changed old removed upserted)
  pub once : AreUidsDistinct new
  pub acyclic : IsAcyclic new

-- After changes that a JSON denotes, a world that conforms still conforms (own; Cedar documentation, validation).
abbrev pub ChangedWorldsConform : Type 0
ChangedWorldsConform = (s : SchemaTree) (d : Data) (old new : World) → AreParentsDeclared s → AreTypesApart s → IsHierarchy s → Conforms s old → DenotesChangedWorld s d old new → Conforms s new

-- The bytes denote the second world after the first: they are a JSON that does (own; RFC 8259).
abbrev pub BytesDenoteChanged : SchemaTree → List ℕ → World → World → Type 0
BytesDenoteChanged s bytes old new = (d : Data) × (json_of bytes ≡ Some d) × DenotesChangedWorld s d old new

-- ---- which faults they have

-- The faults of a JSON of changes. 502: it writes no changes. Those of an entry. 401: two entries write one uid, or one is removed
-- twice. 508: an action is removed. 402: the JSON denotes changes after which a uid is below itself (own; Cedar documentation,
-- entities and context in JSON).
pub data HasChangesFault (s : SchemaTree) (w : World) (d : Data) : ConformFault → Type 0 where
  no_changes : ((entries : Items) (removed : List Uid) → ¬ WritesChanges d entries removed) → HasChangesFault s w d Shape
  of_entry : {entries : Items} {entry : Data} {f : ConformFault} → as_array (upserts_in d) ≡ Some entries → (k : ℕ) × (get_item k entries ≡ Some entry) → HasEntryFault s entry f → HasChangesFault s w d f
  written_twice : {entries : Items} {u : Uid} → as_array (upserts_in d) ≡ Some entries → TwoWrite entries u → HasChangesFault s w d (DuplicateEntity u)
  removed_twice : {entries : Items} {removed : List Uid} {u : Uid} → WritesChanges d entries removed → IsRemovedTwice removed u → HasChangesFault s w d (DuplicateEntity u)
  action_removed : {entries : Items} {removed : List Uid} {u : Uid} → WritesChanges d entries removed → Contains removed u → IsActionUid s u → HasChangesFault s w d ActionDiffers
  below_itself : {removed : List Uid} {upserted : World} {u : Uid} → DenotesChanges s d removed upserted → Below (changed w removed upserted) u u → HasChangesFault s w d (Cycle u)

-- The bytes have the fault: they are not JSON, 501, or a JSON that has it (own; RFC 8259).
abbrev pub BytesHaveChangesFault : SchemaTree → World → List ℕ → ConformFault → Type 0
BytesHaveChangesFault s w bytes f = ((f ≡ Json) × (json_of bytes ≡ None)) ⊎ ((d : Data) × (json_of bytes ≡ Some d) × HasChangesFault s w d f)
