use Rattle.cedar_parser_limits.specs.StatementLimits.{condition_size}
use Rattle.cedar_parser_limits.proofs.JudgeLemmas.{low_of, small_of, broken_of}
use Rattle.cedar_parser_limits.proofs.judgement.judge_size.Goals as goal

pub returns-clause-low : goal.returns-clause-low
returns-clause-low c = low_of c.judge_limits.result c.condition_size-size.result (condition_size c.args.statement.now) c.condition_size-size.ensures c.judge_limits.ensures.low

pub returns-clause-small : goal.returns-clause-small
returns-clause-small c = small_of c.judge_limits.result c.condition_size-size.result (condition_size c.args.statement.now) c.condition_size-size.ensures c.judge_limits.ensures.small

pub returns-clause-broken : goal.returns-clause-broken
returns-clause-broken c = λ l. broken_of l c.judge_limits.result c.condition_size-size.result c.args.statement.now c.condition_size-size.ensures c.judge_limits.ensures.broken
