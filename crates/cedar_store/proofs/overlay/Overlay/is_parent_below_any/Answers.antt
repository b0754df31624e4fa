use Rattle.std.proofs.Common.{sym, ◌∙◌}
use Rattle.cedar_store.specs.Private.Overlaid.{IsSettled, world_over}
use Rattle.cedar_store.proofs.Overlaid.{any_same, below_apart, parent_apart, unsettled}
use Rattle.cedar_store.proofs.overlay.Overlay.is_parent_below_any.Goals as goal

pub returns-then-has : goal.returns-then-has
returns-then-has c =
    let p = c.args.parent.now in
    let part = c.args.self.now.settled.now.world in
    let there : IsSettled part p = sym c.has.ensures ∙ c.if-has.true in
    any_same (world_over c.args.self.now.base.now.world c.args.self.now.changes.now) part p c.args.highs.now c.is_below_any.result (λ v. (let same = c.requires.overlaid.settled p v there in (same.1, same.0))) c.is_below_any.ensures.chain

pub returns : goal.returns
returns c =
    let b = c.args.self.now.base.now in
    let cs = c.args.self.now.changes.now in
    let part = c.args.self.now.settled.now.world in
    let p = c.args.parent.now in
    let distinct = c.facts-2.ensures.distinct in
    let named = c.facts-2.ensures.named in
    let apart = parent_apart b cs c.args.self.now.marks.now part c.args.self.now.noted.now distinct named c.facts.ensures.numbered c.requires.overlaid c.requires.parent.0 p c.requires.parent.1 (unsettled part p c.has.result c.has.ensures c.if-has.false) in
    any_same (world_over b.world cs) b.world p c.args.highs.now c.is_below_any-2.result (λ v. below_apart b.world cs p v apart) c.is_below_any-2.ensures.chain
