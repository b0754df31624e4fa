use Rattle.std.proofs.Common.{◌≡◌, take, map}
use Rattle.cedar_ast.specs.Condition.{entity_literal}
use Rattle.cedar_ast.proofs.policy.literals.Given as goal

abbrev pub invariant-loop-entity : goal.invariant-loop-entity
invariant-loop-entity l = l.members.items ≡ map entity_literal (take l.entity-index l.entities)
