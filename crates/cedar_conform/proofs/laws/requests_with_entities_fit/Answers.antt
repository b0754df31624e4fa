use Rattle.cedar_conform.proofs.WithEntitiesLemmas.{with_entities_fit}
use Rattle.cedar_conform.proofs.laws.requests_with_entities_fit.Goals as goal

pub returns : goal.returns
returns c = with_entities_fit c.read_values_belong.ensures
