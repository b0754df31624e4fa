use Rattle.std.proofs.Common.{◌≡◌, ◌<◌, drop, length}
use Rattle.cedar_ast.specs.Condition.{conditions_of}
use Rattle.cedar_ast.proofs.policy.all_conditions.Given as goal

abbrev pub invariant-loop-index : goal.invariant-loop-index
invariant-loop-index l = (l.index < length l.conditions) × (l.joined ≡ conditions_of (drop l.index l.conditions))
