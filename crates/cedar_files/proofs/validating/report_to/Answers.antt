use Rattle.cedar_files.proofs.Found.{some_counted}
use Rattle.cedar_files.proofs.validating.report_to.Goals as goal

pub returns-in-Ok-2-clause-faults : goal.returns-in-Ok-2-clause-faults
returns-in-Ok-2-clause-faults g c = λ _.
    let found = c.in-Ok.ensures.faults in
    some_counted c.args.settings c.args.schema.now c.args.policies.now.policies found.0 c.in-Ok.place.faults found.1 found.2 c.if-place-eq0.false
