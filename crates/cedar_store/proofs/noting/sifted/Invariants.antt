use Rattle.std.proofs.Common.{◌⊎◌, Bor, Contains, take}
use Rattle.base_reach.specs.Private.Lent.{lent}
use Rattle.cedar_value.specs.declared.uid.Uid.{Uid}
use Rattle.cedar_store.specs.Private.Overlaid.{IsNoted}
use Rattle.cedar_store.specs.Private.Parts.{IsSifted}
use Rattle.cedar_store.proofs.EachMore.{Each}
use Rattle.cedar_store.proofs.noting.sifted.Given as goal

abbrev pub invariant-loop-uid : goal.invariant-loop-uid
invariant-loop-uid l =
    Each (λ (u : Bor Uid). IsSifted l.links.base.now l.links.changes.now (lent l.due.items) l.noted u.now) (take l.uid-index l.found)
    × ((p : Uid) → IsNoted l.initial.noted p → IsNoted l.noted p)
    × ((p : Uid) → IsNoted l.noted p → IsNoted l.initial.noted p ⊎ Contains (lent l.found) p)
