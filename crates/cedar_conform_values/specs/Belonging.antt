-- What is read for a type belongs to it.
use Rattle.std.specs.Prelude.{◌≡◌, []}
use Rattle.serde_json.specs.Data.{Data}
use Rattle.cedar_schema_types.specs.Types.{TypeTree}
use Rattle.cedar_schema_types.specs.Membership.{Member}
use Rattle.cedar_conform_values.specs.Values.{value_read}

-- A JSON that is read without fault for a type is a value of the type (Cedar documentation, entities and context in JSON).
abbrev pub ReadValuesBelong : Type 0
ReadValuesBelong = (t : TypeTree) (d : Data) → (value_read t d).faults ≡ [] → Member t (value_read t d).value
