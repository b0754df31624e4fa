use Rattle.std.proofs.Common.{sym, ◌∙◌}
use Rattle.cedar_store.specs.Private.Overlaid.{IsSettled}
use Rattle.cedar_store.proofs.Overlaid.{below_apart, parent_apart, unsettled}
use Rattle.cedar_store.proofs.overlay.Overlay.is_parent_below.Goals as goal

pub returns-then-has : goal.returns-then-has
returns-then-has c =
    let part = c.args.self.now.settled.now.world in
    let there : IsSettled part c.args.parent.now = sym c.has.ensures ∙ c.if-has.true in
    let same = c.requires.overlaid.settled c.args.parent.now c.args.high.now there in
    (λ t. same.0 (c.is_below.ensures.chain.0 t), λ d. c.is_below.ensures.chain.1 (same.1 d))

pub returns : goal.returns
returns c =
    let b = c.args.self.now.base.now in
    let cs = c.args.self.now.changes.now in
    let part = c.args.self.now.settled.now.world in
    let p = c.args.parent.now in
    let distinct = c.facts-2.ensures.distinct in
    let named = c.facts-2.ensures.named in
    let apart = parent_apart b cs c.args.self.now.marks.now part c.args.self.now.noted.now distinct named c.facts.ensures.numbered c.requires.overlaid c.requires.parent.0 p c.requires.parent.1 (unsettled part p c.has.result c.has.ensures c.if-has.false) in
    let same = below_apart b.world cs p c.args.high.now apart in
    (λ t. same.1 (c.is_below-2.ensures.chain.0 t), λ d. c.is_below-2.ensures.chain.1 (same.0 d))
