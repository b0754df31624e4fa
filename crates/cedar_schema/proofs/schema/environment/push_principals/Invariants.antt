use Rattle.std.proofs.Common.{◌≡◌, ◌++◌}
use Rattle.cedar_schema_spec.specs.Private.Environments.{with_principals}
use Rattle.cedar_schema.proofs.schema.environment.push_principals.Given as goal

abbrev pub invariant-loop-principal : goal.invariant-loop-principal
invariant-loop-principal l = l.found.items ++ with_principals l.uid l.action l.principal-iterator ≡ l.initial.found.items ++ with_principals l.uid l.action l.action.principals
