use Rattle.std.proofs.Common.{Contains, take}
use Rattle.base_reach.specs.Private.Lent.{lent}
use Rattle.cedar_value.specs.declared.uid.Uid.{Uid}
use Rattle.cedar_store.specs.Private.Overlaid.{IsNoted}
use Rattle.cedar_store.proofs.EachMore.{Each}
use Rattle.cedar_store.proofs.Marked.{Keeps}
use Rattle.cedar_store.proofs.settling.push_noted.Given as goal

abbrev pub invariant-loop-uid : goal.invariant-loop-uid
invariant-loop-uid l = Keeps l.initial.due.items l.due.items × Each (λ (u : Uid). IsNoted l.noted u → Contains (lent l.due.items) u) (take l.uid-index l.uids)
