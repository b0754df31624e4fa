use Rattle.cedar_value.proofs.Empty.{below_any-empty}
use Rattle.cedar_value.proofs.no_entities.NoEntitiesHierarchy.is_below_any.Goals as goal

pub returns-clause-gives : goal.returns-clause-gives
returns-clause-gives c = below_any-empty c.args._low.now c.args._highs.now
