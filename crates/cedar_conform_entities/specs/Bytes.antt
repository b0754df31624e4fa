-- What the bytes of a file of entities denote for a schema, and which faults they have.
use Rattle.std.specs.Prelude.{◌≡◌, ◌⊎◌, ℕ, List, Some, None}
use Rattle.serde_json.specs.Data.{Data}
use Rattle.cedar_conform_values.specs.declared.conform_fault.ConformFault.{ConformFault}
use Rattle.cedar_conform_values.specs.declared.conform_fault.ConformFault.TheVariants.{Json}
use Rattle.cedar_conform_entities.specs.Denotes.{DenotesWorld}
use Rattle.cedar_conform_entities.specs.Faults.{HasFault}
use Rattle.base_json.specs.JsonTree.{json_of}
use Rattle.cedar_schema_spec.specs.SchemaTree.{SchemaTree}
use Rattle.cedar_value.specs.World.{World}

-- The bytes denote the world: they are a JSON that does (Cedar documentation, entities and context in JSON; RFC 8259).
abbrev pub BytesDenote : SchemaTree → List ℕ → World → Type 0
BytesDenote s bytes w = (d : Data) × (json_of bytes ≡ Some d) × DenotesWorld s d w

-- The bytes have the fault: they are not JSON, 501, or a JSON that has it (Cedar documentation, entities and context in JSON;
-- RFC 8259).
abbrev pub BytesHaveFault : SchemaTree → List ℕ → ConformFault → Type 0
BytesHaveFault s bytes f = ((f ≡ Json) × (json_of bytes ≡ None)) ⊎ ((d : Data) × (json_of bytes ≡ Some d) × HasFault s d f)
