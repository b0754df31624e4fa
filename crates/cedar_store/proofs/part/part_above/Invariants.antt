use Rattle.std.proofs.Common.{Bor, Contains, take}
use Rattle.cedar_value.specs.declared.uid.Uid.{Uid}
use Rattle.base_reach.specs.Private.Lent.{lent}
use Rattle.cedar_store.specs.Private.Overlaid.{world_over}
use Rattle.cedar_store.proofs.EachMore.{Each}
use Rattle.cedar_store.proofs.Parts.{IsGrown}
use Rattle.cedar_store.proofs.part.part_above.Given as goal

abbrev pub invariant-loop-uid : goal.invariant-loop-uid
invariant-loop-uid l = Each (λ (u : Bor Uid). Contains l.met.keys u.now) (take l.uid-index l.due)

abbrev pub invariant-loop-place : goal.invariant-loop-place
invariant-loop-place l = IsGrown (world_over l.links.base.now.world l.links.changes.now) (lent l.due) l.met.keys l.part.items l.place
