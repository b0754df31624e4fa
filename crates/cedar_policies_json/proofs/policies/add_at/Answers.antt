use Rattle.cedar_policies_json.proofs.policies.add_at.Goals as goal

pub returns-in-Err-clause-refused : goal.returns-in-Err-clause-refused
returns-in-Err-clause-refused c = (c.in-Err.fault, c.refusal_at.ensures, c.in-Err.ensures.refused)
