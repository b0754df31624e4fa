use Rattle.std.proofs.lemmas.Result.{err_from_is_err_and}
use Rattle.cedar_parser_limits.proofs.judgement.judge.Goals as goal

pub returns-clause-kept : goal.returns-clause-kept
returns-clause-kept c = record { keeps = c.in_ok-judge_side_conditions.ensures.kept; low = c.in_ok-judge_size.ensures.low; small = c.in_ok-judge_size.ensures.small }

pub returns-in_err-judge_size-clause-broken : goal.returns-in_err-judge_size-clause-broken
returns-in_err-judge_size-clause-broken c =
    let p = err_from_is_err_and c.from_residual-in_err-judge_size.result c.from_residual-in_err-judge_size.ensures.1 in
    rw (p.1, p.2) (c.in_err-judge_size.ensures.broken c.args.language)
