use Rattle.std.proofs.Common.{◌≡◌, [], ap, sym, ◌∙◌}
use Rattle.cedar_value.specs.World.{EntityTree, parents_of}
use Rattle.cedar_store.specs.Private.Changing.{ChangeTree}
use Rattle.cedar_store.specs.Private.Overlaid.{world_over}
use Rattle.cedar_store.proofs.Overlaid.{below_apart, parents_in, parents_named, parents_unnamed, row_apart}
use Rattle.cedar_store.proofs.overlay.Overlay.changed_parents.Goals as goal

pub returns-in-Some-entity : goal.returns-in-Some-entity
returns-in-Some-entity c =
    let entry = parents_named c.args.self.now.base.now.world c.args.self.now.changes.now c.facts-2.ensures.distinct c.facts-2.ensures.named c.args.low.now c.in-Some.change.now (sym c.in-Some.ensures) in
    let held : parents_of (world_over c.args.self.now.base.now.world c.args.self.now.changes.now) c.args.low.now ≡ c.in-Some-entity.entity.parents = entry ∙ ap parents_in (sym (ap (λ (x : ChangeTree). x.entity) c.change.view_is) ∙ c.in-Some-entity.is) in
    c.deref.ensures.value ∙ ap (λ (e : EntityTree). e.parents) c.entity.view_is ∙ sym held

pub returns-in-None-entity : goal.returns-in-None-entity
returns-in-None-entity c =
    let entry = parents_named c.args.self.now.base.now.world c.args.self.now.changes.now c.facts-2.ensures.distinct c.facts-2.ensures.named c.args.low.now c.in-Some.change.now (sym c.in-Some.ensures) in
    let held : parents_of (world_over c.args.self.now.base.now.world c.args.self.now.changes.now) c.args.low.now ≡ [] = entry ∙ ap parents_in (sym (ap (λ (x : ChangeTree). x.entity) c.change.view_is) ∙ c.in-None-entity.is) in
    sym held

pub returns-then-is_below_marked : goal.returns-then-is_below_marked
returns-then-is_below_marked c =
    c.parents.ensures ∙ sym (parents_unnamed c.args.self.now.base.now.world c.args.self.now.changes.now c.facts-2.ensures.distinct c.facts-2.ensures.named c.args.low.now (sym c.in-None.ensures))

pub returns-else-is_below_marked : goal.returns-else-is_below_marked
returns-else-is_below_marked c =
    let b = c.args.self.now.base.now in
    let cs = c.args.self.now.changes.now in
    let distinct = c.facts-2.ensures.distinct in
    let named = c.facts-2.ensures.named in
    let apart = row_apart b cs c.args.self.now.marks.now c.args.self.now.settled.now.world c.args.self.now.noted.now distinct named c.facts.ensures.numbered c.requires c.args.low.now (sym c.in-None.ensures) (c.is_below_marked.ensures c.if-is_below_marked.false) in
    λ v. below_apart b.world cs c.args.low.now v apart
