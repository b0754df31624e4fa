-- The numbers of refusals.
use Rattle.std.specs.Prelude.{ℕ}
use Rattle.cedar_schema_json.specs.declared.schema_fault.SchemaFault.{SchemaFault}
use Rattle.cedar_schema_json.specs.declared.schema_fault.SchemaFault.TheVariants.{OutOfMemory, Json, Shape, UnknownType, CommonCycle, ActionCycle, ReservedName, OpenRecord, Unspecified, TooLarge}

-- The number of each refusal, as docs/REFUSALS.md lists them (own).
abbrev pub number_of : SchemaFault → ℕ
number_of OutOfMemory = 1
number_of Json = 301
number_of Shape = 302
number_of UnknownType = 303
number_of CommonCycle = 304
number_of ActionCycle = 305
number_of ReservedName = 306
number_of OpenRecord = 307
number_of Unspecified = 308
number_of TooLarge = 309
