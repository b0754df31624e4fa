use Rattle.std.proofs.Common.{sym, ap, subst, ◌∙◌}
use Rattle.std.proofs.lemmas.Result.{err_from_is_err_and}
use Rattle.cedar_store.specs.Entities.{IsAcyclic}
use Rattle.cedar_store.specs.Private.Based.{BaseTree}
use Rattle.cedar_store.proofs.NoChanges.{no_fault, overlaid_none}
use Rattle.cedar_store.proofs.Overlaid.{world_over-none}
use Rattle.cedar_store.proofs.store.Store.build.Goals as goal

pub returns-in_err-nothing-clause-refused : goal.returns-in_err-nothing-clause-refused
returns-in_err-nothing-clause-refused c =
    let p = err_from_is_err_and c.from_residual-in_err-nothing.result c.from_residual-in_err-nothing.ensures.1 in
    rw (p.1, p.2) (no_fault c.new.result.items c.args.entities.items c.new.ensures.items c.in_err-nothing.field-0.0 c.in_err-nothing.ensures.refused)

pub invariant_of-result : goal.invariant_of-result
invariant_of-result c =
    let part = ap (λ (b : BaseTree). b.world) c.in_ok-new-2.ensures.ok ∙ c.in_ok-nothing.ensures.world ∙ c.new.ensures.items in
    overlaid_none c.in_ok-new.field-0.value c.new-3.result c.new-4.result c.in_ok-new-2.field-0.value.world c.new-6.result c.new-3.ensures c.new-4.ensures part c.new-6.ensures
    (subst (λ (b : BaseTree). IsAcyclic b.world) (sym c.in_ok-new.ensures.ok) c.facts.ensures.acyclic)

pub returns-clause-world : goal.returns-clause-world
returns-clause-world c =
    world_over-none c.in_ok-new.field-0.value.world c.new-3.result c.new-3.ensures ∙ ap (λ (b : BaseTree). b.world) c.in_ok-new.ensures.ok ∙ c.in_ok-base.ensures.world
