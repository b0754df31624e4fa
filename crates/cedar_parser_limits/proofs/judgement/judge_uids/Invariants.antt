use Rattle.std.proofs.Common.{drop}
use Rattle.cedar_parser_limits.specs.StatementLimits.{KeepUids}
use Rattle.cedar_parser_limits.specs.Private.Judging.{IsLeft}
use Rattle.cedar_parser_limits.proofs.judgement.judge_uids.Given as goal

abbrev pub invariant-loop-uid : goal.invariant-loop-uid
invariant-loop-uid l = IsLeft l.sought (λ c. KeepUids c (drop l.uid-index l.uids)) (λ c. KeepUids c l.uids)
