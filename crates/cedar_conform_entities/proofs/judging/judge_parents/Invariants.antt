use Rattle.std.proofs.Common.{length}
use Rattle.cedar_conform_entities.proofs.EntryLemmas.{AllBut}
use Rattle.cedar_conform_entities.specs.Private.Parts.{IsGoodParent}
use Rattle.cedar_conform_entities.proofs.judging.judge_parents.Given as goal

-- of the parents before those that are left it is known
abbrev pub invariant-walk : goal.invariant-walk
invariant-walk l = AllBut (IsGoodParent l.schema l.uid) l.parents l.rest

abbrev pub decreases-walk : goal.decreases-walk
decreases-walk l = length l.rest
