use Rattle.cedar_conform.proofs.WithEntitiesLemmas.{with_entities_conform}
use Rattle.cedar_conform.proofs.laws.worlds_for_requests_conform.Goals as goal

pub returns : goal.returns
returns c = with_entities_conform c.changed_worlds_conform.ensures
