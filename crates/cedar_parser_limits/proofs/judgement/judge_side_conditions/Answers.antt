use Rattle.cedar_parser_limits.proofs.judgement.judge_side_conditions.Goals as goal

pub returns-in-Ok-clause-kept : goal.returns-in-Ok-clause-kept
returns-in-Ok-clause-kept c = λ condition. c.in-Ok.ensures.kept condition tt
