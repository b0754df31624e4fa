use Rattle.cedar_conform_values.proofs.UidLemmas.{refused_text}
use Rattle.cedar_conform_values.proofs.uid.uid_of_text.Goals as goal

pub returns-in_default : goal.returns-in_default
returns-in_default c = λ u h. refused_text c.in-Err.fault u c.in_default.not-OutOfMemory (c.in-Err.ensures.only u h)
