use Rattle.std.proofs.Common.{◌≡◌, List, ℕ, Option, None, Some, option_map, ap, sym, ◌∙◌}
use Rattle.cedar_value.specs.Datum.{Datum}
use Rattle.cedar_value.specs.World.{EntityTree, entry_of}
use Rattle.cedar_store.specs.Private.Changing.{ChangeTree}
use Rattle.cedar_store.specs.Private.Overlaid.{world_over}
use Rattle.cedar_store.proofs.Overlaid.{over_named, over_unnamed}
use Rattle.cedar_store.proofs.overlay.Overlay.attributes.Goals as goal

attributes_in : Option EntityTree → Option (List (List ℕ × Datum))
attributes_in o = option_map (λ (e : EntityTree). e.attributes) o

pub returns-in-Some-entity : goal.returns-in-Some-entity
unfolding attributes_in
returns-in-Some-entity c =
    let entry = over_named c.args.self.now.base.now.world c.args.self.now.changes.now c.facts.ensures.distinct c.facts.ensures.named c.args.uid.now c.in-Some.change.now (sym c.in-Some.ensures) in
    let held : entry_of (world_over c.args.self.now.base.now.world c.args.self.now.changes.now) c.args.uid.now ≡ Some c.in-Some-entity.entity = entry ∙ sym (ap (λ (x : ChangeTree). x.entity) c.change.view_is) ∙ c.in-Some-entity.is in
    ap (λ (e : EntityTree). Some e.attributes) c.entity.view_is ∙ sym (ap attributes_in held)

pub returns-in-None-entity : goal.returns-in-None-entity
unfolding attributes_in
returns-in-None-entity c =
    let entry = over_named c.args.self.now.base.now.world c.args.self.now.changes.now c.facts.ensures.distinct c.facts.ensures.named c.args.uid.now c.in-Some.change.now (sym c.in-Some.ensures) in
    let held : entry_of (world_over c.args.self.now.base.now.world c.args.self.now.changes.now) c.args.uid.now ≡ None = entry ∙ sym (ap (λ (x : ChangeTree). x.entity) c.change.view_is) ∙ c.in-None-entity.is in
    sym (ap attributes_in held)

pub returns-in-None : goal.returns-in-None
unfolding attributes_in
returns-in-None c =
    let entry = over_unnamed c.args.self.now.base.now.world c.args.self.now.changes.now c.facts.ensures.distinct c.facts.ensures.named c.args.uid.now (sym c.in-None.ensures) in
    c.attributes.ensures ∙ sym (ap attributes_in entry)
