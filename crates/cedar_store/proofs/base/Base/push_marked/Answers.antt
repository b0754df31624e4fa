use Rattle.std.proofs.Common.{◌≡◌, ◌≤◌, ◌<◌, arith, length, List, Some, get_or, sym, ap, subst, ◌∙◌}
use Rattle.std.proofs.lemmas.Option.{slice_get-get_or}
use Rattle.cedar_value.specs.declared.uid.Uid.{Uid}
use Rattle.cedar_store.specs.Private.Kept.{number_in}
use Rattle.cedar_store.proofs.Marked.{all_gathered, gather, pushed_keeps, pushed_there}
use Rattle.cedar_store.proofs.Members.{position_here}
use Rattle.cedar_store.proofs.base.Base.push_marked.Goals.{then-may_be_marked+in_ok-push, else-may_be_marked}
use Rattle.cedar_store.proofs.base.Base.push_marked.Goals as goal

pub loop-number-init : goal.loop-number-init
loop-number-init c = (λ p m. m, λ k p less numbered marked. absurd (omega arith))

pub loop-number-preserved : goal.loop-number-preserved
loop-number-preserved c =
    let b = c.args.self.now in
    let keys = c.self.inside.numbers.keys in
    let i = c.loop-number.number in
    let uid = c.uid-item.result in
    let same : c.as_slice-uid-items.result.now ≡ keys = c.as_slice-uid-items.ensures.keys in
    let is : uid ≡ get_or keys i uid = subst (λ (us : List Uid). uid ≡ get_or us i uid) same c.uid-item.is in
    let within : i < length keys = subst (λ (us : List Uid). i < length us) same c.loop-number-test.true in
    let inside : number_in keys uid ≡ Some i = position_here keys i uid c.as_slice-uid-items.ensures.unique (slice_get-get_or keys i uid within ∙ ap Some (sym is)) in
    let at : number_in b.keys uid ≡ Some i = rw (← c.self.view_is) inside in
    elim c.if-may_be_marked.branch [
      | then-may_be_marked+in_ok-push w ↦ (let new = w.in_ok-push.ensures.items in
          let keeps = pushed_keeps c.loop-number.found.items w.push.new.self.items _ new in
          rw (w.found-is) (λ p m. keeps p (c.loop-number.invariant.0 p m), gather b c.args.marks.now i uid c.loop-number.found.items w.push.new.self.items at c.loop-number.invariant.1 keeps (λ marked. pushed_there c.loop-number.found.items w.push.new.self.items _ new)))
      | else-may_be_marked w ↦
          rw (w.found-is) (c.loop-number.invariant.0, gather b c.args.marks.now i uid c.loop-number.found.items c.loop-number.found.items at c.loop-number.invariant.1 (λ p m. m) (λ marked. absurd (c.may_be_marked.ensures w.if-may_be_marked.false uid at marked)))
    ]

pub returns-clause-kept : goal.returns-clause-kept
returns-clause-kept c = c.loop-number.invariant.0

pub returns-clause-marked : goal.returns-clause-marked
returns-clause-marked c =
    let past : length c.args.self.now.keys ≤ c.loop-number.number = rw (← c.self.view_is) (subst (λ (us : List Uid). length us ≤ c.loop-number.number) c.as_slice-uid-items.ensures.keys c.loop-number-test.false) in
    all_gathered c.args.self.now c.args.marks.now c.loop-number.found.items c.loop-number.number past c.loop-number.invariant.1
