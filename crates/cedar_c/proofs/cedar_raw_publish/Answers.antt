use Rattle.cedar_c.proofs.cedar_raw_publish.Goals as goal

pub returns-in_default-clause-argument : goal.returns-in_default-clause-argument
returns-in_default-clause-argument c = λ _. c.in_default.ensures

pub returns-in-Err-clause-refused : goal.returns-in-Err-clause-refused
returns-in-Err-clause-refused c = λ e. let r = c.say_why.ensures.refused e in (c.in-Some.settings, r.0, c.in-Some.ensures, r.1, r.2)

pub returns-in-Err-clause-faults : goal.returns-in-Err-clause-faults
returns-in-Err-clause-faults c = λ e. let r = c.say_why.ensures.faults e in (c.in-Some.settings, r.0, c.in-Some.ensures, r.1, r.2)
