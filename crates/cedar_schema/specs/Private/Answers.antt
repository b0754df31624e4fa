-- The result of a call that makes a schema.
use Rattle.std.specs.Prelude.{◌≢◌, List, Result, MatchResult}
use Rattle.cedar_schema_json.specs.declared.schema_fault.SchemaFault.{SchemaFault}
use Rattle.cedar_schema_json.specs.declared.schema_fault.SchemaFault.TheVariants.{OutOfMemory}
use Rattle.cedar_schema.specs.Denotes.{IsFine, IsThere}
use Rattle.cedar_schema_spec.specs.SchemaTree.{SchemaTree}

-- the schema where it is fine, or a fault that is there, or out of memory
abbrev pub Answers : Result SchemaTree SchemaFault → List SchemaFault → SchemaTree → Type 0
Answers result faults tree = MatchResult result (IsFine faults tree) (λ e. e ≢ OutOfMemory → IsThere faults tree e)
