use Rattle.std.proofs.Common.{◌++◌, ◌∷◌, [], List, sym, ap, ◌∙◌, take}
use Rattle.std.proofs.lemmas.List.{take_all, take_more}
use Rattle.cedar_value.specs.declared.uid.Uid.{Uid}
use Rattle.cedar_store.proofs.part.bare.Goals as goal

pub loop-parent-preserved : goal.loop-parent-preserved
loop-parent-preserved c =
    let us = c.args.parents.now in
    let i = c.loop-parent.parent-index in
    let u = c.parent-item.result in
    c.in_ok-push.ensures.items ∙ ap (λ (xs : List Uid). xs ++ c.in_ok-try_clone.field-0 ∷ []) c.loop-parent.invariant ∙ ap (λ (x : Uid). take i us ++ x ∷ []) (c.in_ok-try_clone.ensures ∙ c.parent-item.is) ∙ sym (take_more us i u c.loop-parent-test.true)

pub returns-clause-parents : goal.returns-clause-parents
returns-clause-parents c = c.loop-parent.invariant ∙ take_all c.loop-parent.parent-index c.args.parents.now c.loop-parent-test.false
