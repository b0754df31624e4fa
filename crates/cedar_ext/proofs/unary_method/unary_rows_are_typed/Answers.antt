use Rattle.cedar_ext.specs.Private.RowsTyped.{unary_typed}
use Rattle.cedar_ext.proofs.unary_method.unary_rows_are_typed.Goals as goal

pub returns : goal.returns
returns c = unary_typed
