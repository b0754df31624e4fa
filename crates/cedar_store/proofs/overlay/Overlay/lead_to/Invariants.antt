use Rattle.std.proofs.Common.{◌≡◌, ◌⊎◌, All, take}
use Rattle.cedar_value.specs.World.{Below}
use Rattle.cedar_store.specs.Private.Overlaid.{world_over}
use Rattle.cedar_store.proofs.overlay.Overlay.lead_to.Given as goal

abbrev pub invariant-loop-parent : goal.invariant-loop-parent
invariant-loop-parent l = All (λ p. ¬ ((p ≡ l.high) ⊎ Below (world_over l.self.base.now.world l.self.changes.now) p l.high)) (take l.parent-index l.parents)
