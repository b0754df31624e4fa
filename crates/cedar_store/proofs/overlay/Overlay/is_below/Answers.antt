use Rattle.std.proofs.Common.{◌≡◌, ◌⊎◌, List, Contains, subst, sym, ◌∙◌}
use Rattle.cedar_value.specs.World.{Below}
use Rattle.cedar_value.specs.declared.uid.Uid.{Uid}
use Rattle.cedar_store.specs.Private.Overlaid.{IsSettled, world_over}
use Rattle.cedar_store.proofs.Overlaid.{below_parents}
use Rattle.cedar_store.proofs.overlay.Overlay.is_below.Goals as goal

pub returns-in-Some : goal.returns-in-Some
returns-in-Some c =
    let w = world_over c.args.self.now.base.now.world c.args.self.now.changes.now in
    let high = c.args.high.now in
    let step = below_parents w c.args.low.now high in
    let leads = λ (ps : List Uid). (p : Uid) × Contains ps p × ((p ≡ high) ⊎ Below w p high) in
    let parents = c.in-Some.ensures in
    (λ t. step.1 (subst leads parents (c.lead_to.ensures.0 t)), λ d. c.lead_to.ensures.1 (subst leads (sym parents) (step.0 d)))

pub returns-then-has : goal.returns-then-has
returns-then-has c =
    let part = c.args.self.now.settled.now.world in
    let there : IsSettled part c.args.low.now = sym c.has.ensures ∙ c.if-has.true in
    let same = c.requires.settled c.args.low.now c.args.high.now there in
    (λ t. same.0 (c.is_below.ensures.chain.0 t), λ d. c.is_below.ensures.chain.1 (same.1 d))
