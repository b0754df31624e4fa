use Rattle.std.proofs.Common.{◌++◌, ◌∷◌, ap, subst, ◌∙◌}
use Rattle.base_reach.specs.Private.Lent.{lent}
use Rattle.cedar_store.specs.Private.Branches.{EachKeyed, keyed_in}
use Rattle.cedar_store.specs.Private.Forks.{branches_of, keyed_of}
use Rattle.cedar_store.specs.Private.Parts.{HasParentsDue}
use Rattle.cedar_store.specs.declared.change_tree.Fork.{Fork}
use Rattle.cedar_store.specs.declared.change_tree.WideFork.{WideFork}
use Rattle.cedar_store.proofs.DueChanges.{joined_due, on_ok_both}
use Rattle.cedar_store.proofs.change_tree.ForkTree.+push_parents.Goals as goal

pub returns-in_ok-push_parents-in-Two-2-clause-parents : goal.returns-in_ok-push_parents-in-Two-2-clause-parents
returns-in_ok-push_parents-in-Two-2-clause-parents t c =
    let b = c.args.base.now in
    let d1 = lent c.push_parents.new.due.items in
    let d2 = lent c.push_parents-in-Two.new.due.items in
    let d3 = lent c.push_parents-in-Two-2.new.due.items in
    let fork = c.in-Two.fork.value in
    let left = subst (λ (f : Fork). EachKeyed (λ k. HasParentsDue b d1 k.change) (keyed_in (branches_of f.left))) c.deref.ensures c.in_ok-push_parents-in-Two.ensures.parents in
    let one = subst (HasParentsDue b d2) (c.deref-in-Two-2.ensures ∙ ap (λ (f : Fork). f.keyed.change.value) c.deref-in-Two.ensures) c.in_ok-push_parents-in-Two-2.ensures.parents in
    rw (c.in-Two.is)
    (on_ok_both c.push_parents-in-Two-2.result
    (λ keeps right. joined_due b d1 d2 d3 (keyed_in (branches_of fork.left)) (keyed_in (branches_of fork.right)) (keyed_of fork.keyed) c.in_ok-push_parents-in-Two-2.ensures.kept keeps left one
    (subst (λ (f : Fork). EachKeyed (λ k. HasParentsDue b d3 k.change) (keyed_in (branches_of f.right))) c.deref-in-Two-3.ensures right))
    c.push_parents-in-Two-2.ensures.kept c.push_parents-in-Two-2.ensures.parents)

pub returns-in_ok-push_parents-in-Three-4-clause-parents : goal.returns-in_ok-push_parents-in-Three-4-clause-parents
returns-in_ok-push_parents-in-Three-4-clause-parents t c =
    let b = c.args.base.now in
    let d1 = lent c.push_parents-in-Three.new.due.items in
    let d2 = lent c.push_parents-in-Three-2.new.due.items in
    let d3 = lent c.push_parents-in-Three-3.new.due.items in
    let d4 = lent c.push_parents-in-Three-4.new.due.items in
    let d5 = lent c.push_parents-in-Three-5.new.due.items in
    let fork = c.in-Three.fork.value in
    let left = subst (λ (f : WideFork). EachKeyed (λ k. HasParentsDue b d1 k.change) (keyed_in (branches_of f.left))) c.deref-in-Three.ensures c.in_ok-push_parents-in-Three.ensures.parents in
    let first = subst (HasParentsDue b d2) (c.deref-in-Three-3.ensures ∙ ap (λ (f : WideFork). f.first.change.value) c.deref-in-Three-2.ensures) c.in_ok-push_parents-in-Three-2.ensures.parents in
    let middle = subst (λ (f : WideFork). EachKeyed (λ k. HasParentsDue b d3 k.change) (keyed_in (branches_of f.middle))) c.deref-in-Three-4.ensures c.in_ok-push_parents-in-Three-3.ensures.parents in
    let second = subst (HasParentsDue b d4) (c.deref-in-Three-6.ensures ∙ ap (λ (f : WideFork). f.second.change.value) c.deref-in-Three-5.ensures) c.in_ok-push_parents-in-Three-4.ensures.parents in
    let to3 = c.in_ok-push_parents-in-Three-3.ensures.kept in
    let to4 = c.in_ok-push_parents-in-Three-4.ensures.kept in
    let l = keyed_in (branches_of fork.left) in
    let m = keyed_in (branches_of fork.middle) in
    let r = keyed_in (branches_of fork.right) in
    rw (c.in-Three.is)
    (on_ok_both c.push_parents-in-Three-5.result
    (λ keeps right. joined_due b d1 d2 d5 l (m ++ keyed_of fork.second ∷ r) (keyed_of fork.first) c.in_ok-push_parents-in-Three-2.ensures.kept (λ p h. keeps p (to4 p (to3 p h))) left first
    (joined_due b d3 d4 d5 m r (keyed_of fork.second) to4 keeps middle second (subst (λ (f : WideFork). EachKeyed (λ k. HasParentsDue b d5 k.change) (keyed_in (branches_of f.right))) c.deref-in-Three-7.ensures right)))
    c.push_parents-in-Three-5.ensures.kept c.push_parents-in-Three-5.ensures.parents)
