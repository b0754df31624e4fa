use Rattle.std.proofs.Common.{◌≡◌, OnOk, ap, subst, sym, ◌∙◌}
use Rattle.cedar_value.specs.World.{World}
use Rattle.cedar_store.specs.Ancestors.{AddsAncestors}
use Rattle.cedar_store.specs.Private.Based.{BaseTree}
use Rattle.cedar_store.proofs.Overlaid.{world_over-none}
use Rattle.cedar_store.proofs.store.Store.ancestors.Goals as goal

pub returns-then-is_empty-clause-adds : goal.returns-then-is_empty-clause-adds
returns-then-is_empty-clause-adds c =
    let bare = world_over-none c.self.inside.base.value.world c.self.inside.changes (c.is_empty.ensures.0 c.if-is_empty.true) in
    let same : c.deref.result.now.world ≡ c.args.self.now = ap (λ (b : BaseTree). b.world) c.deref.ensures ∙ sym bare ∙ c.self.view_is in
    subst (λ (w : World). OnOk c.ancestors.result (AddsAncestors w c.args.low.now c.args.found.now.items c.ancestors.new.found.items)) same c.ancestors.ensures.adds
