use Rattle.std.proofs.Common.{sym, ◌∙◌}
use Rattle.cedar_store.specs.Private.Overlaid.{IsSettled, world_over}
use Rattle.cedar_store.proofs.Overlaid.{any_parents, any_same}
use Rattle.cedar_store.proofs.overlay.Overlay.is_below_any.Goals as goal

pub returns-then-has : goal.returns-then-has
returns-then-has c =
    let low = c.args.low.now in
    let part = c.args.self.now.settled.now.world in
    let there : IsSettled part low = sym c.has.ensures ∙ c.if-has.true in
    any_same (world_over c.args.self.now.base.now.world c.args.self.now.changes.now) part low c.args.highs.now c.is_below_any.result (λ v. (let same = c.requires.settled low v there in (same.1, same.0))) c.is_below_any.ensures.chain

pub returns-in-Some : goal.returns-in-Some
returns-in-Some c =
    let w = world_over c.args.self.now.base.now.world c.args.self.now.changes.now in
    let step = any_parents w c.args.low.now c.in-Some.parents.now c.args.highs.now c.in-Some.ensures in
    (λ t. step.0 (c.lead_to_any.ensures.0 t), λ h. c.lead_to_any.ensures.1 (step.1 h))

pub returns-in-None : goal.returns-in-None
returns-in-None c =
    let b = c.args.self.now.base.now in
    any_same (world_over b.world c.args.self.now.changes.now) b.world c.args.low.now c.args.highs.now c.is_below_any-in-None.result c.in-None.ensures c.is_below_any-in-None.ensures.chain
