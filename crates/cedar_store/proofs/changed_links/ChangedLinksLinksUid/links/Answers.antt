use Rattle.std.proofs.Common.{◌≡◌, Some, None, sym, ap, ◌∙◌, option_copied}
use Rattle.cedar_value.specs.World.{EntityTree}
use Rattle.cedar_store.specs.Private.Changing.{ChangeTree}
use Rattle.cedar_store.proofs.Overlaid.{parents_in, parents_named, parents_unnamed}
use Rattle.cedar_store.proofs.changed_links.ChangedLinksLinksUid.links.Goals as goal

pub returns-in-Some-entity : goal.returns-in-Some-entity
returns-in-Some-entity c =
    let is : c.in-Some.change.now.entity ≡ Some c.in-Some-entity.entity = ap (λ (x : ChangeTree). x.entity) (sym c.change.view_is) ∙ c.in-Some-entity.is in
    c.deref.ensures.value ∙ ap (λ (e : EntityTree). e.parents) c.entity.view_is ∙ sym (ap parents_in is)
    ∙ sym (parents_named c.args.self.now.base.now.world c.args.self.now.changes.now c.facts.ensures.distinct c.facts.ensures.named c.args.uid.now c.in-Some.change.now (sym c.get.ensures ∙ ap option_copied c.in-Some.is))

pub returns-in-None-entity : goal.returns-in-None-entity
returns-in-None-entity c =
    let is : c.in-Some.change.now.entity ≡ None = ap (λ (x : ChangeTree). x.entity) (sym c.change.view_is) ∙ c.in-None-entity.is in
    sym (ap parents_in is)
    ∙ sym (parents_named c.args.self.now.base.now.world c.args.self.now.changes.now c.facts.ensures.distinct c.facts.ensures.named c.args.uid.now c.in-Some.change.now (sym c.get.ensures ∙ ap option_copied c.in-Some.is))

pub returns-in-None : goal.returns-in-None
returns-in-None c =
    c.parents.ensures
    ∙ sym (parents_unnamed c.args.self.now.base.now.world c.args.self.now.changes.now c.facts.ensures.distinct c.facts.ensures.named c.args.uid.now (sym c.get.ensures ∙ ap option_copied c.in-None.is))
