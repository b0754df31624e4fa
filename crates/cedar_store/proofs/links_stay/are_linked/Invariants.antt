use Rattle.std.proofs.Common.{take}
use Rattle.cedar_store.specs.Private.Overlaid.{IsLinked}
use Rattle.cedar_store.proofs.EachMore.{Each}
use Rattle.cedar_store.proofs.links_stay.are_linked.Given as goal

abbrev pub invariant-loop-uid : goal.invariant-loop-uid
invariant-loop-uid l = Each (IsLinked l.base l.settled.world l.noted) (take l.uid-index l.uids)
