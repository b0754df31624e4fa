use Rattle.cedar_schema_json.proofs.ChainLemmas.{leads_on}
use Rattle.cedar_schema_json.proofs.form.chains.end_of_end.Goals as goal

pub returns-in-Some : goal.returns-in-Some
returns-in-Some c t ends = leads_on t (c.end_of-middle.ensures t ends) (c.end_of-end.ensures t ends) c.in-Some.followed c.in-Some.ensures.1
