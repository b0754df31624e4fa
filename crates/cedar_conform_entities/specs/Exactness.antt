-- Bytes of entities, and of changes of entities, denote one world or have a fault.
use Rattle.std.specs.Prelude.{◌≡◌, ℕ, List}
use Rattle.cedar_conform_values.specs.declared.conform_fault.ConformFault.{ConformFault}
use Rattle.cedar_conform_entities.specs.Bytes.{BytesDenote, BytesHaveFault}
use Rattle.cedar_conform_entities.specs.Changes.{BytesDenoteChanged, BytesHaveChangesFault}
use Rattle.cedar_schema_spec.specs.SchemaTree.{SchemaTree}
use Rattle.cedar_store.specs.Changes.{HaveSameEntities}
use Rattle.cedar_value.specs.World.{World}

-- No bytes denote two worlds (Cedar documentation, entities and context in JSON).
abbrev pub OneWorld : Type 0
OneWorld = (s : SchemaTree) (bytes : List ℕ) (v w : World) → BytesDenote s bytes v → BytesDenote s bytes w → v ≡ w

-- Bytes that denote a world have no fault (Cedar documentation, entities and context in JSON).
abbrev pub WorldsHaveNoFault : Type 0
WorldsHaveNoFault = (s : SchemaTree) (bytes : List ℕ) (w : World) (f : ConformFault) → BytesDenote s bytes w → ¬ BytesHaveFault s bytes f

-- Worlds that bytes of changes denote after one have the same entities (own; Cedar's crate, upsert and removal of entities).
abbrev pub OneChangedWorld : Type 0
OneChangedWorld = (s : SchemaTree) (bytes : List ℕ) (old v w : World) → BytesDenoteChanged s bytes old v → BytesDenoteChanged s bytes old w → HaveSameEntities v w

-- Bytes of changes that denote a world after another have no fault there (own; Cedar's crate, upsert and removal of entities).
abbrev pub ChangedWorldsHaveNoFault : Type 0
ChangedWorldsHaveNoFault = (s : SchemaTree) (bytes : List ℕ) (old new : World) (f : ConformFault) → BytesDenoteChanged s bytes old new → ¬ BytesHaveChangesFault s old bytes f
