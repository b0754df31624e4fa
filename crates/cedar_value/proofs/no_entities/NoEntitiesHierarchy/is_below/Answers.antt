use Rattle.cedar_value.proofs.Empty.{below-empty}
use Rattle.cedar_value.proofs.no_entities.NoEntitiesHierarchy.is_below.Goals as goal

pub returns-clause-gives : goal.returns-clause-gives
returns-clause-gives c = below-empty c.args._low.now c.args._high.now
