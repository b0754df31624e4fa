-- What changes of entities hold for a world, and why they are refused.
use Rattle.std.specs.Prelude.{◌≡◌, ◌≢◌, ℕ, List, None}
use Rattle.cedar_value.specs.World.{World}
use Rattle.cedar_schema_spec.specs.SchemaTree.{SchemaTree}
use Rattle.cedar_conform_values.specs.Numbers.{number_of}
use Rattle.cedar_conform_values.specs.declared.conform_fault.ConformFault.{ConformFault}
use Rattle.cedar_conform_values.specs.declared.conform_fault.ConformFault.TheVariants.{OutOfMemory}
use Rattle.cedar_conform_entities.specs.Changes.{BytesDenoteChanged, BytesHaveChangesFault}
use Rattle.cedar_files.specs.declared.refusal.FileRefusal.{FileRefusal}

-- After the old world, the changes hold the new one for the schema: their bytes denote it (Cedar documentation, entities and context
-- in JSON).
abbrev pub HoldChanges : SchemaTree → List ℕ → World → World → Type 0
HoldChanges s changes old new = BytesDenoteChanged s changes old new

-- This is why the changes hold no world for the schema after this one: the number, without a place, of a fault of their bytes. It is
-- never 1, since out of memory is not a fault of bytes (own).
abbrev pub HoldNoChanges : SchemaTree → List ℕ → World → FileRefusal → Type 0
HoldNoChanges s changes old refusal =
    (fault : ConformFault) × BytesHaveChangesFault s old changes fault × (fault ≢ OutOfMemory) × (refusal ≡ record { number = number_of fault; offset = None })
