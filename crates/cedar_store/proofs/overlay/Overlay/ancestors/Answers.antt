use Rattle.std.proofs.Common.{◌≡◌, ◌⊎◌, Contains, List, subst, sym, ◌∙◌}
use Rattle.std.proofs.lemmas.Result.{on_ok_weaker}
use Rattle.cedar_value.specs.World.{Below}
use Rattle.cedar_value.specs.declared.uid.Uid.{Uid}
use Rattle.cedar_store.specs.Private.Overlaid.{IsSettled, world_over}
use Rattle.cedar_store.proofs.Gathered.{AddsAncestors-added, AddsAncestors-as}
use Rattle.cedar_store.proofs.Overlaid.{below_parents}
use Rattle.cedar_store.proofs.overlay.Overlay.ancestors.Goals as goal

pub returns-then-has-clause-adds : goal.returns-then-has-clause-adds
returns-then-has-clause-adds c =
    let w = world_over c.args.self.now.base.now.world c.args.self.now.changes.now in
    let low = c.args.low.now in
    let part = c.args.self.now.settled.now.world in
    let there : IsSettled part low = sym c.has.ensures ∙ c.if-has.true in
    on_ok_weaker c.ancestors.result (AddsAncestors-as part w low c.args.found.now.items c.ancestors.new.found.items (λ v. c.requires.settled low v there)) c.ancestors.ensures.adds

pub returns-in-Some-clause-adds : goal.returns-in-Some-clause-adds
returns-in-Some-clause-adds c =
    let w = world_over c.args.self.now.base.now.world c.args.self.now.changes.now in
    let low = c.args.low.now in
    let leads = λ (v : Uid) (ps : List Uid). (p : Uid) × Contains ps p × ((p ≡ v) ⊎ Below w p v) in
    let parents = c.in-Some.ensures in
    on_ok_weaker c.push_above.result
    (AddsAncestors-added w low c.args.found.now.items c.push_above.new.found.items (λ v. leads v c.in-Some.parents.now)
    (λ v. (let step = below_parents w low v in (λ h. step.1 (subst (leads v) parents h), λ d. subst (leads v) (sym parents) (step.0 d))))) c.push_above.ensures.adds
