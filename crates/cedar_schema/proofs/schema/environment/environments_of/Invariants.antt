use Rattle.std.proofs.Common.{◌≡◌, ◌++◌}
use Rattle.cedar_schema_spec.specs.SchemaTree.{environments_of}
use Rattle.cedar_schema.proofs.schema.environment.environments_of.Given as goal

abbrev pub invariant-loop-uid : goal.invariant-loop-uid
invariant-loop-uid l = l.found.items ++ environments_of l.uid-iterator ≡ environments_of l.actions.entries
