-- The numbers and the places of the refusals of a schema text (own).
use Rattle.std.specs.Prelude.{ℕ, Option, Some, None}
use Rattle.cedar_schema_text.specs.declared.fault.SchemaTextFault.{SchemaTextFault}
use Rattle.cedar_schema_text.specs.declared.fault.SchemaTextFault.TheVariants as f

-- The number of a refusal of a schema text, as the program prints it (own).
abbrev pub number_of : SchemaTextFault → ℕ
number_of f.OutOfMemory = 1
number_of (f.Syntax at) = 310
number_of (f.Twice at) = 311

-- The byte from 0 at which a refusal is reported, if it has a place (own).
abbrev pub offset_of : SchemaTextFault → Option ℕ
offset_of f.OutOfMemory = None
offset_of (f.Syntax at) = Some at
offset_of (f.Twice at) = Some at
