use Rattle.std.proofs.Common.{take}
use Rattle.cedar_value.specs.World.{EntityTree}
use Rattle.cedar_store.proofs.EachMore.{Each}
use Rattle.cedar_store.proofs.Due.{IsDue}
use Rattle.cedar_store.proofs.Marked.{Keeps}
use Rattle.cedar_store.proofs.settling.push_settled.Given as goal

abbrev pub invariant-loop-entity : goal.invariant-loop-entity
invariant-loop-entity l = Keeps l.initial.due.items l.due.items × Each (λ (e : EntityTree). IsDue l.base l.due.items e.uid) (take l.entity-index l.part.world)
