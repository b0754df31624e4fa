use Rattle.std.proofs.Common.{length}
use Rattle.cedar_conform_entities.proofs.EntryLemmas.{AllBut}
use Rattle.cedar_schema_spec.specs.Descents.{ActionDescends}
use Rattle.cedar_conform_entities.proofs.judging.descends_from_all.Given as goal

-- of the ancestors before those that are left it is known
abbrev pub invariant-walk : goal.invariant-walk
invariant-walk l = AllBut (ActionDescends l.schema l.action) l.ancestors l.rest

abbrev pub decreases-walk : goal.decreases-walk
decreases-walk l = length l.rest
