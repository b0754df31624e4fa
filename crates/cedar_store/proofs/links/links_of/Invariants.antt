use Rattle.std.proofs.Common.{take}
use Rattle.cedar_store.specs.Private.Kept.{AreParentNumbers}
use Rattle.cedar_store.proofs.links.links_of.Given as goal

abbrev pub invariant-loop-entity : goal.invariant-loop-entity
invariant-loop-entity l = AreParentNumbers l.numbers.keys (take l.entity-index l.table) l.lists
