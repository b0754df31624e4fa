use Rattle.std.proofs.Common.{◌≡◌, ◌⊎◌, Contains, take}
use Rattle.cedar_value.specs.World.{Below}
use Rattle.cedar_value.specs.declared.uid.Uid.{Uid}
use Rattle.cedar_store.specs.Private.Gathered.{Gathers, KeepsFirst}
use Rattle.cedar_store.specs.Private.Overlaid.{world_over}
use Rattle.cedar_store.proofs.overlay.Overlay.gather_parents.Given as goal

abbrev pub invariant-loop-parent : goal.invariant-loop-parent
invariant-loop-parent l =
    KeepsFirst l.begun l.initial.found.items l.found.items
    × Gathers l.begun l.initial.found.items l.found.items (λ v. (p : Uid) × Contains (take l.parent-index l.parents) p × ((p ≡ v) ⊎ Below (world_over l.self.base.now.world l.self.changes.now) p v))
