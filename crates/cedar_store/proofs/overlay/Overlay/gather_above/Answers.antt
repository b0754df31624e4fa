use Rattle.std.proofs.lemmas.Result.{on_ok_weaker}
use Rattle.std.proofs.Common.{sym, ◌∙◌}
use Rattle.cedar_value.specs.World.{Below}
use Rattle.cedar_store.specs.Private.Overlaid.{IsSettled, world_over}
use Rattle.cedar_store.proofs.Gathered.{Gathers-as}
use Rattle.cedar_store.proofs.Overlaid.{below_apart, parent_apart, unsettled}
use Rattle.cedar_store.proofs.overlay.Overlay.gather_above.Goals as goal

pub returns-then-has-clause-gathers : goal.returns-then-has-clause-gathers
returns-then-has-clause-gathers c =
    let p = c.args.parent.now in
    let part = c.args.self.now.settled.now.world in
    let w = world_over c.args.self.now.base.now.world c.args.self.now.changes.now in
    let there : IsSettled part p = sym c.has.ensures ∙ c.if-has.true in
    on_ok_weaker c.gather_ancestors.result (Gathers-as c.args.begun c.args.found.now.items c.gather_ancestors.new.found.items (λ v. Below part p v) (λ v. Below w p v) (λ v. c.requires.overlaid.settled p v there)) c.gather_ancestors.ensures.gathers

pub returns-clause-gathers : goal.returns-clause-gathers
returns-clause-gathers c =
    let b = c.args.self.now.base.now in
    let cs = c.args.self.now.changes.now in
    let part = c.args.self.now.settled.now.world in
    let p = c.args.parent.now in
    let distinct = c.facts-2.ensures.distinct in
    let named = c.facts-2.ensures.named in
    let apart = parent_apart b cs c.args.self.now.marks.now part c.args.self.now.noted.now distinct named c.facts.ensures.numbered c.requires.overlaid c.requires.parent.0 p c.requires.parent.1 (unsettled part p c.has.result c.has.ensures c.if-has.false) in
    on_ok_weaker c.gather_ancestors-2.result (Gathers-as c.args.begun c.args.found.now.items c.gather_ancestors-2.new.found.items (λ v. Below b.world p v) (λ v. Below (world_over b.world cs) p v) (λ v. (let same = below_apart b.world cs p v apart in (same.1, same.0)))) c.gather_ancestors-2.ensures.gathers
