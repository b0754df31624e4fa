use Rattle.std.proofs.Common.{◌≡◌, ◌<◌, ◌≤◌, length, get_or, ap, subst, ◌∙◌, take}
use Rattle.cedar_value.specs.World.{World, EntityTree}
use Rattle.cedar_store.proofs.EachMore.{each_none, each_more, each_all}
use Rattle.cedar_store.proofs.MarkedToo.{IsMarkedIn, all_marked, still_marked, still_marked_entities}
use Rattle.cedar_store.proofs.call_marks.marked_too.Goals as goal

pub loop-uid-init : goal.loop-uid-init
loop-uid-init c = (λ u h. c.in_ok-marks.ensures u ∙ h, each_none (IsMarkedIn c.args.base.now c.in_ok-marks.marks) c.args.removed.now)

pub loop-uid-preserved : goal.loop-uid-preserved
loop-uid-preserved c =
    let b = c.args.base.now in
    let new = c.mark.new.marks in (
      λ u h. c.in_ok-mark.ensures.kept u (c.loop-uid.invariant.0 u h),
      each_more (IsMarkedIn b new) c.args.removed.now c.loop-uid.uid-index c.uid-item.result c.loop-uid-test.true c.uid-item.is
          (still_marked b c.loop-uid.marks new (take c.loop-uid.uid-index c.args.removed.now) c.in_ok-mark.ensures.kept c.loop-uid.invariant.1) c.in_ok-mark.ensures.marked,
    )

pub loop-entity-init : goal.loop-entity-init
loop-entity-init c = (
  c.loop-uid.invariant.0,
  each_all (IsMarkedIn c.args.base.now c.loop-uid.marks) c.args.removed.now c.loop-uid.uid-index c.loop-uid-test.false c.loop-uid.invariant.1,
  each_none (λ (e : EntityTree). IsMarkedIn c.args.base.now c.loop-uid.marks e.uid) c.args.upserted.now,
)

pub loop-entity-preserved : goal.loop-entity-preserved
loop-entity-preserved c =
    let b = c.args.base.now in
    let w = c.args.upserted.now in
    let i = c.loop-entity.entity-index in
    let e = c.entity-item.result in
    let new = c.mark-in-loop-entity.new.marks in
    let same = c.entities-entity-items.ensures in
    let within : i < length w = subst (λ (es : World). i < length es) same c.loop-entity-test.true in
    let is : e ≡ get_or w i e = subst (λ (es : World). e ≡ get_or es i e) same c.entity-item.is in
    let named = ap (λ (x : EntityTree). x.uid) c.entity.view_is in
    let kept = c.in_ok-mark-2.ensures.kept in (
      λ u h. kept u (c.loop-entity.invariant.0 u h),
      still_marked b c.loop-entity.marks new c.args.removed.now kept c.loop-entity.invariant.1,
      each_more (λ (x : EntityTree). IsMarkedIn b new x.uid) w i e within is (still_marked_entities b c.loop-entity.marks new (take i w) kept c.loop-entity.invariant.2) (subst (IsMarkedIn b new) named c.in_ok-mark-2.ensures.marked),
    )

pub returns : goal.returns
returns c =
    let b = c.args.base.now in
    let w = c.args.upserted.now in
    let past : length w ≤ c.loop-entity.entity-index = subst (λ (es : World). length es ≤ c.loop-entity.entity-index) c.entities-entity-items.ensures c.loop-entity-test.false in
    all_marked b c.args.removed.now w c.args.old.now c.loop-entity.marks c.loop-entity.invariant.0 c.loop-entity.invariant.1
    (each_all (λ (x : EntityTree). IsMarkedIn b c.loop-entity.marks x.uid) w c.loop-entity.entity-index past c.loop-entity.invariant.2)
