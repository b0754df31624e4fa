use Rattle.std.proofs.Common.{◌∙◌, ap}
use Rattle.cedar_ext.specs.DecimalOf.{decimal_of}
use Rattle.cedar_ext.proofs.DecimalTexts.{some_reads, none_reads}
use Rattle.cedar_ext.proofs.decimal.Decimal.read.Goals as goal

pub returns-clause-some : goal.returns-clause-some
returns-clause-some c = some_reads _ _ (c.read_bytes.ensures ∙ ap decimal_of c.as_bytes.ensures.value)

pub returns-clause-none : goal.returns-clause-none
returns-clause-none c = none_reads _ _ (c.read_bytes.ensures ∙ ap decimal_of c.as_bytes.ensures.value)
