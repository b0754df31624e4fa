use Rattle.std.proofs.Common.{◌∙◌, ap}
use Rattle.cedar_ext_time.specs.DurationOf.{duration_of}
use Rattle.cedar_ext_time.proofs.DurationTexts.{duration_some, duration_none}
use Rattle.cedar_ext_time.proofs.duration.Duration.read.Goals as goal

pub returns-clause-some : goal.returns-clause-some
returns-clause-some c = duration_some _ _ (c.read_bytes.ensures ∙ ap duration_of c.as_bytes.ensures.value)

pub returns-clause-none : goal.returns-clause-none
returns-clause-none c = duration_none _ _ (c.read_bytes.ensures ∙ ap duration_of c.as_bytes.ensures.value)
