use Rattle.std.proofs.Common.{◌≡◌, true, false, Contains, sym, ap, is_some, ◌∙◌, take}
use Rattle.base_reach.specs.Private.Lent.{lent}
use Rattle.cedar_value.specs.declared.uid.Uid.{Uid}
use Rattle.cedar_store.specs.Private.Overlaid.{IsNoted}
use Rattle.cedar_store.proofs.EachMore.{each_none, each_more, each_all}
use Rattle.cedar_store.proofs.Marked.{Keeps, pushed_keeps, pushed_there}
use Rattle.cedar_store.proofs.Noted.{unnoted}
use Rattle.cedar_store.proofs.settling.push_noted.Goals.{then-is_some+in_ok-push, else-is_some}
use Rattle.cedar_store.proofs.settling.push_noted.Goals as goal

pub loop-uid-init : goal.loop-uid-init
loop-uid-init c = (λ p m. m, each_none (λ (u : Uid). IsNoted c.args.noted.now u → Contains (lent c.args.due.now.items) u) c.args.uids.now)

pub loop-uid-preserved : goal.loop-uid-preserved
loop-uid-preserved c =
    let us = c.args.uids.now in
    let i = c.loop-uid.uid-index in
    let u = c.uid-item.result in
    let ns = c.args.noted.now in
    let old = c.loop-uid.due.items in
    elim c.if-is_some.branch [
      | then-is_some+in_ok-push w ↦ (let new = w.push.new.self.items in
          let keeps : Keeps old new = pushed_keeps old new _ w.in_ok-push.ensures.items in
          rw (w.due-is) (λ p m. keeps p (c.loop-uid.invariant.0 p m), each_more (λ (x : Uid). IsNoted ns x → Contains (lent new) x) us i u c.loop-uid-test.true c.uid-item.is (λ x m note. keeps x (c.loop-uid.invariant.1 x m note)) (λ note. pushed_there old new _ w.in_ok-push.ensures.items)))
      | else-is_some w ↦
          rw (w.due-is) (c.loop-uid.invariant.0, each_more (λ (x : Uid). IsNoted ns x → Contains (lent old) x) us i u c.loop-uid-test.true c.uid-item.is c.loop-uid.invariant.1 (λ note. absurd (unnoted ns u c.get.result c.is_some.result c.get.ensures c.is_some.ensures w.if-is_some.false note)))
    ]

pub returns-clause-noted : goal.returns-clause-noted
returns-clause-noted c = each_all (λ (u : Uid). IsNoted c.args.noted.now u → Contains (lent c.loop-uid.due.items) u) c.args.uids.now c.loop-uid.uid-index c.loop-uid-test.false c.loop-uid.invariant.1
