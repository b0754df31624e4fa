use Rattle.std.proofs.Common.{◌≡◌, ◌<◌, ◌≤◌, Contains, length, get_or, sym, ap, subst, ◌∙◌, take}
use Rattle.base_reach.specs.Private.Lent.{lent}
use Rattle.cedar_value.specs.World.{EntityTree, World}
use Rattle.cedar_store.specs.Private.Overlaid.{IsNumbered}
use Rattle.cedar_store.proofs.Due.{IsDue, settled_due, still_due_entities}
use Rattle.cedar_store.proofs.EachMore.{each_none, each_more, each_all}
use Rattle.cedar_store.proofs.Marked.{Keeps, pushed_keeps, pushed_there}
use Rattle.cedar_store.proofs.settling.push_settled.Goals.{then-not-is_numbered+in_ok-push, else-not-is_numbered}
use Rattle.cedar_store.proofs.settling.push_settled.Goals as goal

pub loop-entity-init : goal.loop-entity-init
loop-entity-init c = (λ p m. m, each_none (λ (e : EntityTree). IsDue c.args.base.now c.args.due.now.items e.uid) c.args.part.now.world)

pub loop-entity-preserved : goal.loop-entity-preserved
loop-entity-preserved c =
    let b = c.args.base.now in
    let es = c.args.part.now.world in
    let i = c.loop-entity.entity-index in
    let e = c.entity-item.result in
    let old = c.loop-entity.due.items in
    let same = c.entities-entity-items.ensures in
    let within : i < length es = subst (λ (xs : World). i < length xs) same c.loop-entity-test.true in
    let is : e ≡ get_or es i e = subst (λ (xs : World). e ≡ get_or xs i e) same c.entity-item.is in
    let named = ap (λ (x : EntityTree). x.uid) c.entity.view_is in
    elim c.if-not-is_numbered.branch [
      | then-not-is_numbered+in_ok-push w ↦ (let new = w.push.new.self.items in
          let keeps : Keeps old new = pushed_keeps old new _ w.in_ok-push.ensures.items in
          rw (w.due-is) (λ p m. keeps p (c.loop-entity.invariant.0 p m), each_more (λ (x : EntityTree). IsDue b new x.uid) es i e within is (still_due_entities b old new (take i es) keeps c.loop-entity.invariant.1) (λ none. subst (Contains (lent new)) named (pushed_there old new _ w.in_ok-push.ensures.items))))
      | else-not-is_numbered w ↦
          rw (w.due-is) (c.loop-entity.invariant.0, each_more (λ (x : EntityTree). IsDue b old x.uid) es i e within is c.loop-entity.invariant.1 (λ none. absurd (none (subst (IsNumbered b) named (sym c.is_numbered.ensures ∙ w.if-not-is_numbered.false)))))
    ]

pub returns-clause-settled : goal.returns-clause-settled
returns-clause-settled c =
    let es = c.args.part.now.world in
    let past : length es ≤ c.loop-entity.entity-index = subst (λ (xs : World). length xs ≤ c.loop-entity.entity-index) c.entities-entity-items.ensures c.loop-entity-test.false in
    settled_due c.args.base.now c.loop-entity.due.items es (each_all (λ (e : EntityTree). IsDue c.args.base.now c.loop-entity.due.items e.uid) es c.loop-entity.entity-index past c.loop-entity.invariant.1)
