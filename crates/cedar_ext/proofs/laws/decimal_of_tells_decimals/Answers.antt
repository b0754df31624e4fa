use Rattle.cedar_ext.proofs.DecimalTexts.{decimal_of-IsDecimal, IsDecimal-decimal_of}
use Rattle.cedar_ext.proofs.laws.decimal_of_tells_decimals.Goals as goal

pub returns : goal.returns
returns c = λ text units. (IsDecimal-decimal_of text units, decimal_of-IsDecimal text units)
