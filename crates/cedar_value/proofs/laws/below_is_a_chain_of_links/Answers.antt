use Rattle.cedar_value.proofs.Reach.{below-Decides}
use Rattle.cedar_value.proofs.laws.below_is_a_chain_of_links.Goals as goal

pub returns : goal.returns
returns c = below-Decides
