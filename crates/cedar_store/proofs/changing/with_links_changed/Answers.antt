use Rattle.std.proofs.Common.{List, sym, ap, subst, ◌∙◌}
use Rattle.std.proofs.lemmas.Result.{err_from_is_err_and}
use Rattle.cedar_value.specs.World.{World}
use Rattle.cedar_value.specs.declared.uid.Uid.{Uid}
use Rattle.cedar_store.specs.Entities.{uids_of}
use Rattle.cedar_store.specs.Private.Based.{BaseTree}
use Rattle.cedar_store.specs.Private.Called.{AreSettledAnew}
use Rattle.cedar_store.specs.Private.Overlaid.{IsOverlaid}
use Rattle.cedar_store.proofs.AfterCall.{entry_after, fault_after, links_changed}
use Rattle.cedar_store.proofs.MarkedToo.{listed_uid}
use Rattle.cedar_store.proofs.changing.with_links_changed.Goals as goal

pub returns-in_err-anew-clause-refused : goal.returns-in_err-anew-clause-refused
returns-in_err-anew-clause-refused c =
    let o = c.args.overlay.now in
    let p = err_from_is_err_and c.from_residual-in_err-anew.result c.from_residual-in_err-anew.ensures.1 in
    rw (p.1, p.2) (fault_after o.base.now.world o.changes.now c.in_ok-changes.changes c.args.removed.now c.args.upserted c.facts-2.ensures.distinct c.facts-2.ensures.named c.facts-3.ensures.distinct c.facts-3.ensures.named c.in_ok-changes.ensures c.in_err-anew.field-0.0 c.in_err-anew.ensures.refused)

pub returns-clause-overlaid : goal.returns-clause-overlaid
returns-clause-overlaid c =
    let o = c.args.overlay.now in
    let b = o.base.now in
    let new = c.in_ok-changes.changes in
    let part = c.in_ok-anew.anew.0.world in
    let noted = c.in_ok-anew.anew.1 in
    let anew : AreSettledAnew b new c.in_ok-marks.marks o.settled.now.world o.noted.now (uids_of c.args.upserted) part noted = subst (λ (us : List Uid). AreSettledAnew b new c.in_ok-marks.marks o.settled.now.world o.noted.now us part noted) (c.deref.ensures.value ∙ c.in_ok-uids.ensures) c.in_ok-anew.ensures.settled in
    subst (λ (x : World). IsOverlaid b new c.in_ok-marks.marks x noted) (ap (λ (x : BaseTree). x.world) (sym c.in_ok-settled.ensures.ok))
    (links_changed b o.changes.now new c.args.removed.now c.args.upserted o.marks.now c.in_ok-marks.marks o.settled.now.world o.noted.now c.facts-2.ensures.distinct c.facts-2.ensures.named c.facts-3.ensures.distinct c.facts-3.ensures.named c.facts.ensures.numbered c.in_ok-changes.ensures c.requires.overlaid part noted c.in_ok-marks.ensures anew (listed_uid c.args.upserted))

pub returns-clause-entries : goal.returns-clause-entries
returns-clause-entries c =
    let o = c.args.overlay.now in
    entry_after o.base.now.world o.changes.now c.in_ok-changes.changes c.args.removed.now c.args.upserted c.facts-2.ensures.distinct c.facts-2.ensures.named c.facts-3.ensures.distinct c.facts-3.ensures.named c.in_ok-changes.ensures
