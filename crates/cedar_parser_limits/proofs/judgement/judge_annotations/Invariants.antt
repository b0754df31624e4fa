use Rattle.std.proofs.Common.{drop}
use Rattle.cedar_parser_limits.specs.StatementLimits.{KeepAnnotations}
use Rattle.cedar_parser_limits.specs.Private.Judging.{IsLeft}
use Rattle.cedar_parser_limits.proofs.judgement.judge_annotations.Given as goal

abbrev pub invariant-loop-annotation : goal.invariant-loop-annotation
invariant-loop-annotation l = IsLeft l.sought (λ c. KeepAnnotations c (drop l.annotation-index l.annotations)) (λ c. KeepAnnotations c l.annotations)
