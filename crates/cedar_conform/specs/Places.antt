-- Where the environment of a request is.
use Rattle.std.specs.Prelude.{ℕ}
use Rattle.cedar_value.specs.declared.request.Request.{Request}
use Rattle.cedar_schema.specs.Positions.{IsEnvironmentAt}
use Rattle.cedar_schema_spec.specs.SchemaTree.{SchemaTree, environments_of}

-- The environment at the position, from 0, among those of the schema has the action and the types of the request (own).
abbrev pub IsPlacedAt : SchemaTree → Request → ℕ → Type 0
IsPlacedAt s q position = IsEnvironmentAt (environments_of s.actions) q.action q.principal.ty q.resource.ty position
