use Rattle.base_reach.proofs.Chains.{leads-Decides}
use Rattle.base_reach.proofs.laws.leads_is_a_chain_of_links.Goals as goal

pub returns : goal.returns
returns g c = λ same links sources tells listed u v. leads-Decides same tells links sources listed u v
