use Rattle.std.proofs.Common.{sym, ap, subst, ◌∙◌}
use Rattle.cedar_value.specs.World.{World}
use Rattle.cedar_store.specs.Private.Based.{BaseTree}
use Rattle.cedar_store.specs.Private.Overlaid.{IsOverlaid}
use Rattle.cedar_store.proofs.AfterCall.{entry_after, links_kept}
use Rattle.cedar_store.proofs.changing.with_links_kept.Goals as goal

pub returns-clause-overlaid : goal.returns-clause-overlaid
returns-clause-overlaid c =
    let o = c.args.overlay.now in
    subst (IsOverlaid o.base.now c.in_ok-changes.changes c.in_ok-marks.marks c.in_ok-settled.settled.value.world) (sym c.in_ok-noted.ensures)
    (subst (λ (x : World). IsOverlaid o.base.now c.in_ok-changes.changes c.in_ok-marks.marks x o.noted.now) (ap (λ (x : BaseTree). x.world) (sym c.requires.same ∙ sym c.in_ok-settled.ensures))
    (links_kept o.base.now o.changes.now c.in_ok-changes.changes c.args.removed.now c.args.upserted o.marks.now c.in_ok-marks.marks o.settled.now.world o.noted.now c.facts-2.ensures.distinct c.facts-2.ensures.named c.facts-3.ensures.distinct c.facts-3.ensures.named c.facts.ensures.numbered c.in_ok-changes.ensures c.requires.overlaid c.in_ok-marks.ensures c.requires.stay))

pub returns-clause-entries : goal.returns-clause-entries
returns-clause-entries c =
    let o = c.args.overlay.now in
    entry_after o.base.now.world o.changes.now c.in_ok-changes.changes c.args.removed.now c.args.upserted c.facts-2.ensures.distinct c.facts-2.ensures.named c.facts-3.ensures.distinct c.facts-3.ensures.named c.in_ok-changes.ensures
