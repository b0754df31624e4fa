use Rattle.std.proofs.Common.{sym, ◌∙◌, take}
use Rattle.cedar_store.proofs.Due.{IsDue, still_due}
use Rattle.cedar_store.proofs.EachMore.{each_none, each_more, each_all}
use Rattle.cedar_store.proofs.Marked.{Keeps, pushed_keeps, pushed_there}
use Rattle.cedar_store.proofs.settling.push_unnumbered.Goals.{then-not-is_numbered+in_ok-push, else-not-is_numbered}
use Rattle.cedar_store.proofs.settling.push_unnumbered.Goals as goal

pub loop-uid-init : goal.loop-uid-init
loop-uid-init c = (λ p m. m, each_none (IsDue c.args.base.now c.args.due.now.items) c.args.uids.now)

pub loop-uid-preserved : goal.loop-uid-preserved
loop-uid-preserved c =
    let b = c.args.base.now in
    let us = c.args.uids.now in
    let i = c.loop-uid.uid-index in
    let u = c.uid-item.result in
    let old = c.loop-uid.due.items in
    elim c.if-not-is_numbered.branch [
      | then-not-is_numbered+in_ok-push w ↦ (let new = w.push.new.self.items in
          let keeps : Keeps old new = pushed_keeps old new _ w.in_ok-push.ensures.items in
          rw (w.due-is) (λ p m. keeps p (c.loop-uid.invariant.0 p m), each_more (IsDue b new) us i u c.loop-uid-test.true c.uid-item.is (still_due b old new (take i us) keeps c.loop-uid.invariant.1) (λ none. pushed_there old new _ w.in_ok-push.ensures.items)))
      | else-not-is_numbered w ↦
          rw (w.due-is) (c.loop-uid.invariant.0, each_more (IsDue b old) us i u c.loop-uid-test.true c.uid-item.is c.loop-uid.invariant.1 (λ none. absurd (none (sym c.is_numbered.ensures ∙ w.if-not-is_numbered.false))))
    ]

pub returns-clause-appended : goal.returns-clause-appended
returns-clause-appended c = each_all (IsDue c.args.base.now c.loop-uid.due.items) c.args.uids.now c.loop-uid.uid-index c.loop-uid-test.false c.loop-uid.invariant.1
