use Rattle.cedar_ext.specs.Private.RowsTyped.{rows_typed}
use Rattle.cedar_ext.proofs.method.rows_are_typed.Goals as goal

pub returns : goal.returns
returns c = rows_typed
