use Rattle.std.proofs.Common.{take}
use Rattle.cedar_auth.specs.Private.Kept.{IsJudged}
use Rattle.cedar_auth.proofs.judged.judge_all.Given as goal

abbrev pub invariant-loop-position : goal.invariant-loop-position
invariant-loop-position l = IsJudged l.settings l.schema (take l.position l.policies.policies) l.judged
