use Rattle.std.proofs.Common.{take}
use Rattle.cedar_store.proofs.EachMore.{Each}
use Rattle.cedar_store.specs.Private.Called.{DoParentsStay}
use Rattle.cedar_store.proofs.Staying.{DoesEntityStay}
use Rattle.cedar_store.proofs.links_stay.do_links_stay.Given as goal

abbrev pub invariant-loop-uid : goal.invariant-loop-uid
invariant-loop-uid l = Each (DoParentsStay l.links.base.now l.links.changes.now l.settled.world l.noted l.upserted) (take l.uid-index l.removed)

abbrev pub invariant-loop-entity : goal.invariant-loop-entity
invariant-loop-entity l = Each (DoParentsStay l.links.base.now l.links.changes.now l.settled.world l.noted l.upserted) l.removed × Each (DoesEntityStay l.links.base.now l.links.changes.now l.settled.world l.noted l.upserted) (take l.entity-index l.upserted)
