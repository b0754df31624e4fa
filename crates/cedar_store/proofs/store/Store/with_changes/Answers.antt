use Rattle.std.proofs.Common.{sym, subst, ◌∙◌}
use Rattle.std.proofs.lemmas.Result.{err_from_is_err_and}
use Rattle.cedar_store.specs.Entities.{AreUidsDistinct}
use Rattle.cedar_store.specs.Private.Based.{BaseTree}
use Rattle.cedar_store.proofs.OnceEach.{distinct_over}
use Rattle.cedar_store.proofs.UpsertedFaults.{fault_before}
use Rattle.cedar_store.proofs.store.Store.with_changes.Goals as goal

pub returns-in_err-upserted-clause-refused : goal.returns-in_err-upserted-clause-refused
returns-in_err-upserted-clause-refused c =
    let p = err_from_is_err_and c.from_residual.result c.from_residual.ensures.1 in
    rw (p.1, p.2) (fault_before c.args.self.now c.args.removed.now c.args.upserted.items c.in_err-upserted.field-0.0 c.in_err-upserted.ensures.refused)

pub returns-clause-distinct : goal.returns-clause-distinct
returns-clause-distinct c =
    distinct_over c.in_ok-try_clone.field-0.value.world c.in_ok-kept.kept.changes (subst (λ (b : BaseTree). AreUidsDistinct b.world) (sym (c.in_ok-try_clone.ensures ∙ sym c.deref.ensures)) c.facts.ensures.distinct) c.facts-2.ensures.distinct c.facts-2.ensures.named
