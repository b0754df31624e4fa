use Rattle.std.proofs.Common.{◌≡◌, ap, subst, sym, ◌∙◌}
use Rattle.cedar_value.specs.World.{World}
use Rattle.cedar_store.specs.Private.Based.{BaseTree}
use Rattle.cedar_store.specs.Private.Kept.{AreAncestors}
use Rattle.cedar_store.specs.Private.Ascents.{reaches}
use Rattle.cedar_store.proofs.Overlaid.{world_over-none}
use Rattle.cedar_store.proofs.store.Store.ascent.Goals as goal

pub returns-then-is_empty : goal.returns-then-is_empty
returns-then-is_empty c =
    let bare = world_over-none c.self.inside.base.value.world c.self.inside.changes (c.is_empty.ensures.0 c.if-is_empty.true) in
    let same : c.deref.result.now.world ≡ c.args.self.now = ap (λ (b : BaseTree). b.world) c.deref.ensures ∙ sym bare ∙ c.self.view_is in
    subst (λ (w : World). AreAncestors w c.args.uid.now (reaches c.ascent.result)) same c.ascent.ensures
