use Rattle.cedar_conform.proofs.RequestLemmas.{denoted_line_fits}
use Rattle.cedar_conform.proofs.laws.denoted_requests_fit.Goals as goal

pub returns : goal.returns
returns c = denoted_line_fits c.read_values_belong.ensures
