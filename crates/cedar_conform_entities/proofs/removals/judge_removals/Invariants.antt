use Rattle.std.proofs.Common.{length}
use Rattle.cedar_conform_entities.proofs.ChangesLemmas.{RemovalsBut}
use Rattle.cedar_conform_entities.proofs.removals.judge_removals.Given as goal

-- of the uids before those that are left it is known that they are fine
abbrev pub invariant-walk : goal.invariant-walk
invariant-walk l = RemovalsBut l.schema l.removed l.rest l.noted

abbrev pub decreases-walk : goal.decreases-walk
decreases-walk l = length l.rest
