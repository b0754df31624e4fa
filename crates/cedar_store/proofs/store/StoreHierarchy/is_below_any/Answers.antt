use Rattle.std.proofs.Common.{◌≡◌, ◌↔◌, Contains, IsTrue, ap, subst, sym, ◌∙◌}
use Rattle.cedar_value.specs.Datum.{uid}
use Rattle.cedar_value.specs.World.{World, Below}
use Rattle.cedar_value.specs.declared.uid.Uid.{Uid}
use Rattle.cedar_store.specs.Private.Based.{BaseTree}
use Rattle.cedar_store.proofs.Above.{below_any-chain}
use Rattle.cedar_store.proofs.Overlaid.{world_over-none}
use Rattle.cedar_store.proofs.store.StoreHierarchy.is_below_any.Goals as goal

pub returns-then-is_empty-clause-chain : goal.returns-then-is_empty-clause-chain
returns-then-is_empty-clause-chain c =
    let bare = world_over-none c.self.inside.base.value.world c.self.inside.changes (c.is_empty.ensures.0 c.if-is_empty.true) in
    let same : c.deref.result.now.world ≡ c.args.self.now = ap (λ (b : BaseTree). b.world) c.deref.ensures ∙ sym bare ∙ c.self.view_is in
    subst (λ (w : World). IsTrue c.is_below_any.result ↔ ((v : Uid) × Contains c.args.highs.now (uid v) × Below w c.args.low.now v)) same c.is_below_any.ensures.chain

pub returns-then-is_empty-clause-gives : goal.returns-then-is_empty-clause-gives
returns-then-is_empty-clause-gives c =
    let bare = world_over-none c.self.inside.base.value.world c.self.inside.changes (c.is_empty.ensures.0 c.if-is_empty.true) in
    let same : c.deref.result.now.world ≡ c.args.self.now = ap (λ (b : BaseTree). b.world) c.deref.ensures ∙ sym bare ∙ c.self.view_is in
    below_any-chain c.args.self.now c.args.low.now c.args.highs.now c.is_below_any.result
    (subst (λ (w : World). IsTrue c.is_below_any.result ↔ ((v : Uid) × Contains c.args.highs.now (uid v) × Below w c.args.low.now v)) same c.is_below_any.ensures.chain)

pub returns-else-is_empty-clause-gives : goal.returns-else-is_empty-clause-gives
returns-else-is_empty-clause-gives c =
    let answer = c.is_below_any-else-is_empty.result in
    below_any-chain c.args.self.now c.args.low.now c.args.highs.now answer
    (subst (λ (w : World). IsTrue answer ↔ ((v : Uid) × Contains c.args.highs.now (uid v) × Below w c.args.low.now v)) c.overlay.ensures.world c.is_below_any-else-is_empty.ensures)
