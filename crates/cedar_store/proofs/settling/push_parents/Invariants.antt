use Rattle.std.proofs.Common.{take}
use Rattle.cedar_store.specs.Private.Overlaid.{world_over}
use Rattle.cedar_store.proofs.EachMore.{Each}
use Rattle.cedar_store.proofs.Due.{AreParentsDue}
use Rattle.cedar_store.proofs.Marked.{Keeps}
use Rattle.cedar_store.proofs.settling.push_parents.Given as goal

abbrev pub invariant-loop-uid : goal.invariant-loop-uid
invariant-loop-uid l = Keeps l.initial.due.items l.due.items × Each (AreParentsDue l.links.base.now (world_over l.links.base.now.world l.links.changes.now) l.due.items) (take l.uid-index l.uids)
