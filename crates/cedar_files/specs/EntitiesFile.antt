-- What an entities file holds for a schema, and why it is refused.
use Rattle.std.specs.Prelude.{◌≡◌, ◌≢◌, ℕ, List, Option, None, MatchOption}
use Rattle.cedar_value.specs.World.{World}
use Rattle.cedar_schema_spec.specs.SchemaTree.{SchemaTree}
use Rattle.cedar_conform_values.specs.Numbers.{number_of}
use Rattle.cedar_conform_values.specs.declared.conform_fault.ConformFault.{ConformFault}
use Rattle.cedar_conform_values.specs.declared.conform_fault.ConformFault.TheVariants.{OutOfMemory}
use Rattle.cedar_conform_entities.specs.Bytes.{BytesDenote, BytesHaveFault}
use Rattle.cedar_files.specs.declared.refusal.FileRefusal.{FileRefusal}

-- The command line names an entities file, and its bytes denote the world for the schema (Cedar documentation, entities and
-- context in JSON).
abbrev pub HoldsWorld : SchemaTree → Option (List ℕ) → World → Type 0
HoldsWorld s held w = MatchOption held ⊥ (λ bytes. BytesDenote s bytes w)

-- The command line names an entities file, and this is why it holds no world for the schema: the number, without a place, of a
-- fault of its bytes. It is never 1, since out of memory is not a fault of bytes (own).
abbrev pub HoldsNoWorld : SchemaTree → Option (List ℕ) → FileRefusal → Type 0
HoldsNoWorld s held refusal =
    MatchOption held ⊥ (λ bytes. (fault : ConformFault) × BytesHaveFault s bytes fault × (fault ≢ OutOfMemory) × (refusal ≡ record { number = number_of fault; offset = None }))
