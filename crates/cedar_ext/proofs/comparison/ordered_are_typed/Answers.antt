use Rattle.cedar_ext.specs.Private.RowsTyped.{ordered_typed}
use Rattle.cedar_ext.proofs.comparison.ordered_are_typed.Goals as goal

pub returns : goal.returns
returns c = ordered_typed
