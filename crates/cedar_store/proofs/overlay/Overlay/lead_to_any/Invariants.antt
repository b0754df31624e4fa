use Rattle.std.proofs.Common.{◌≡◌, ◌⊎◌, All, Contains, take}
use Rattle.cedar_value.specs.Datum.{uid}
use Rattle.cedar_value.specs.World.{Below}
use Rattle.cedar_value.specs.declared.uid.Uid.{Uid}
use Rattle.cedar_store.specs.Private.Overlaid.{world_over}
use Rattle.cedar_store.proofs.overlay.Overlay.lead_to_any.Given as goal

abbrev pub invariant-loop-parent : goal.invariant-loop-parent
invariant-loop-parent l = All (λ p. ¬ ((v : Uid) × Contains l.highs (uid v) × ((p ≡ v) ⊎ Below (world_over l.self.base.now.world l.self.changes.now) p v))) (take l.parent-index l.parents)
