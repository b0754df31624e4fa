use Rattle.cedar_schema.proofs.CycleLemmas.{cycles_found}
use Rattle.cedar_schema.proofs.laws.cycles_are_found.Goals as goal

pub returns : goal.returns
returns c = cycles_found
