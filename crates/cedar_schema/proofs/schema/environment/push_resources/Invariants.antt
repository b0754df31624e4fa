use Rattle.std.proofs.Common.{◌≡◌, ◌++◌}
use Rattle.cedar_schema_spec.specs.Private.Environments.{with_resources}
use Rattle.cedar_schema.proofs.schema.environment.push_resources.Given as goal

abbrev pub invariant-loop-resource : goal.invariant-loop-resource
invariant-loop-resource l = l.found.items ++ with_resources l.uid l.principal l.action.context l.resource-iterator ≡ l.initial.found.items ++ with_resources l.uid l.principal l.action.context l.action.resources
