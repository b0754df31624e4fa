use Rattle.std.proofs.Common.{sym, ap}
use Rattle.cedar_ast.specs.Condition.{conditions_of}
use Rattle.cedar_machine.specs.Verdict.{verdict_of}
use Rattle.cedar_auth.proofs.part.Part.verdict.Goals as goal

pub returns-then-not-is_met-clause-verdict : goal.returns-then-not-is_met-clause-verdict
returns-then-not-is_met-clause-verdict g c =
    rw (← c.self.view_is)
    (sym (ap verdict_of (rw c.scope.ensures at c.is_met.ensures.unmet c.if-not-is_met.true (conditions_of c.self.inside.policy.now.conditions))))
