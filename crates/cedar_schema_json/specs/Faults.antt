-- What a refusal says.
use Rattle.std.specs.Prelude.{◌≢◌, List, Contains}
use Rattle.cedar_schema_json.specs.declared.schema_fault.SchemaFault.{SchemaFault}
use Rattle.cedar_schema_json.specs.declared.schema_fault.SchemaFault.TheVariants.{OutOfMemory}

-- A refusal other than out of memory is one of the faults that are there (own).
abbrev pub Told : List SchemaFault → SchemaFault → Type 0
Told fs e = e ≢ OutOfMemory → Contains fs e
