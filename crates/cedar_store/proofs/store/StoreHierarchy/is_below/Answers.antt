use Rattle.std.proofs.Common.{◌≡◌, ◌↔◌, IsTrue, ap, subst, sym, ◌∙◌}
use Rattle.cedar_value.specs.World.{World, Below}
use Rattle.cedar_store.specs.Private.Based.{BaseTree}
use Rattle.cedar_store.proofs.Above.{below-chain}
use Rattle.cedar_store.proofs.Overlaid.{world_over-none}
use Rattle.cedar_store.proofs.store.StoreHierarchy.is_below.Goals as goal

pub returns-then-is_empty-clause-chain : goal.returns-then-is_empty-clause-chain
returns-then-is_empty-clause-chain c =
    let bare = world_over-none c.self.inside.base.value.world c.self.inside.changes (c.is_empty.ensures.0 c.if-is_empty.true) in
    let same : c.deref.result.now.world ≡ c.args.self.now = ap (λ (b : BaseTree). b.world) c.deref.ensures ∙ sym bare ∙ c.self.view_is in
    subst (λ (w : World). IsTrue c.is_below.result ↔ Below w c.args.low.now c.args.high.now) same c.is_below.ensures.chain

pub returns-then-is_empty-clause-gives : goal.returns-then-is_empty-clause-gives
returns-then-is_empty-clause-gives c =
    let bare = world_over-none c.self.inside.base.value.world c.self.inside.changes (c.is_empty.ensures.0 c.if-is_empty.true) in
    let same : c.deref.result.now.world ≡ c.args.self.now = ap (λ (b : BaseTree). b.world) c.deref.ensures ∙ sym bare ∙ c.self.view_is in
    below-chain c.args.self.now c.args.low.now c.args.high.now c.is_below.result (subst (λ (w : World). IsTrue c.is_below.result ↔ Below w c.args.low.now c.args.high.now) same c.is_below.ensures.chain)

pub returns-else-is_empty-clause-gives : goal.returns-else-is_empty-clause-gives
returns-else-is_empty-clause-gives c =
    let answer = c.is_below-else-is_empty.result in
    below-chain c.args.self.now c.args.low.now c.args.high.now answer (subst (λ (w : World). IsTrue answer ↔ Below w c.args.low.now c.args.high.now) c.overlay.ensures.world c.is_below-else-is_empty.ensures)
