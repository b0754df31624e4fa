use Rattle.std.proofs.Common.{ap, is_some, sym, ◌∙◌}
use Rattle.cedar_store.specs.Private.Changing.{ChangeTree}
use Rattle.cedar_store.proofs.Overlaid.{over_named, over_unnamed}
use Rattle.cedar_store.proofs.overlay.Overlay.has.Goals as goal

pub returns-in-Some : goal.returns-in-Some
returns-in-Some c =
    let cs = c.args.self.now.changes.now in
    let entry = over_named c.args.self.now.base.now.world cs c.facts.ensures.distinct c.facts.ensures.named c.args.uid.now c.in-Some.change.now (sym c.in-Some.ensures) in
    c.is_some.ensures ∙ ap is_some (ap (λ (x : ChangeTree). x.entity) c.change.view_is ∙ sym entry)

pub returns-in-None : goal.returns-in-None
returns-in-None c =
    let cs = c.args.self.now.changes.now in
    let entry = over_unnamed c.args.self.now.base.now.world cs c.facts.ensures.distinct c.facts.ensures.named c.args.uid.now (sym c.in-None.ensures) in
    c.has.ensures ∙ ap is_some (sym entry)
