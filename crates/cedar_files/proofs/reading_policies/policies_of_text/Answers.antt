use Rattle.cedar_files.proofs.PolicyFiles.{of_text}
use Rattle.cedar_files.proofs.reading_policies.policies_of_text.Goals as goal

pub returns-in-Err-clause-refused : goal.returns-in-Err-clause-refused
returns-in-Err-clause-refused c =
    let text = c.in-Ok.ensures.cases in
    of_text c.args.language c.args.bytes.now c.in-Ok.text.now c.in-Err.fault text.1 text.0 c.in-Err.ensures.fault c.in-Err.ensures.only c.refusal_of_text.result c.refusal_of_text.ensures.refused
