use Rattle.std.proofs.Common.{drop}
use Rattle.cedar_parser_limits.specs.StatementLimits.{KeepConditions}
use Rattle.cedar_parser_limits.specs.Private.Judging.{IsLeft}
use Rattle.cedar_parser_limits.proofs.judgement.judge_conditions.Given as goal

abbrev pub invariant-loop-clause : goal.invariant-loop-clause
invariant-loop-clause l = IsLeft l.sought (λ c. KeepConditions l.sought.language c (drop l.clause-index l.conditions)) (λ c. KeepConditions l.sought.language c l.conditions)
