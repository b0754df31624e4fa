use Rattle.std.proofs.Common.{◌∙◌, ap}
use Rattle.cedar_ext_time.specs.DatetimeOf.{datetime_of}
use Rattle.cedar_ext_time.proofs.DatetimeTexts.{datetime_some, datetime_none}
use Rattle.cedar_ext_time.proofs.datetime.Datetime.read.Goals as goal

pub returns-clause-some : goal.returns-clause-some
returns-clause-some c = datetime_some _ _ (c.read_bytes.ensures ∙ ap datetime_of c.as_bytes.ensures.value)

pub returns-clause-none : goal.returns-clause-none
returns-clause-none c = datetime_none _ _ (c.read_bytes.ensures ∙ ap datetime_of c.as_bytes.ensures.value)
