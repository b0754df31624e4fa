use Rattle.std.proofs.Common.{◌≡◌, ◌<◌, ◌≤◌, length, get_or, ap, subst, ◌∙◌}
use Rattle.cedar_value.specs.World.{World, EntityTree}
use Rattle.cedar_store.specs.Private.Called.{DoParentsStay}
use Rattle.cedar_store.specs.Private.Overlaid.{IsLinked}
use Rattle.cedar_store.proofs.EachMore.{Each, each_none, each_more, each_all}
use Rattle.cedar_store.proofs.Staying.{DoesEntityStay, links_stay}
use Rattle.cedar_store.proofs.links_stay.do_links_stay.Goals as goal

pub loop-uid-init : goal.loop-uid-init
loop-uid-init c = each_none (DoParentsStay c.args.links.now.base.now c.args.links.now.changes.now c.args.settled.now.world c.args.noted.now c.args.upserted.now) c.args.removed.now

pub loop-uid-preserved : goal.loop-uid-preserved
loop-uid-preserved c =
    each_more (DoParentsStay c.args.links.now.base.now c.args.links.now.changes.now c.args.settled.now.world c.args.noted.now c.args.upserted.now) c.args.removed.now c.loop-uid.uid-index c.uid-item.result c.loop-uid-test.true c.uid-item.is c.loop-uid.invariant
    (c.do_parents_stay.ensures c.if-not-do_parents_stay.false)

pub loop-entity-init : goal.loop-entity-init
loop-entity-init c =
    let b = c.args.links.now.base.now in
    let cs = c.args.links.now.changes.now in (
      each_all (DoParentsStay b cs c.args.settled.now.world c.args.noted.now c.args.upserted.now) c.args.removed.now c.loop-uid.uid-index c.loop-uid-test.false c.loop-uid.invariant,
      each_none (DoesEntityStay b cs c.args.settled.now.world c.args.noted.now c.args.upserted.now) c.args.upserted.now,
    )

pub loop-entity-preserved : goal.loop-entity-preserved
loop-entity-preserved c =
    let b = c.args.links.now.base.now in
    let cs = c.args.links.now.changes.now in
    let sets = c.args.settled.now.world in
    let notes = c.args.noted.now in
    let w = c.args.upserted.now in
    let i = c.loop-entity.entity-index in
    let e = c.entity-item.result in
    let same = c.entities-entity-items.ensures in
    let within : i < length w = subst (λ (es : World). i < length es) same c.loop-entity-test.true in
    let is : e ≡ get_or w i e = subst (λ (es : World). e ≡ get_or es i e) same c.entity-item.is in
    let stays : DoParentsStay b cs sets notes w e.uid = subst (DoParentsStay b cs sets notes w) (ap (λ (x : EntityTree). x.uid) c.entity.view_is) (c.do_parents_stay-in-loop-entity.ensures c.if-not-do_parents_stay-2.false) in
    let linked : Each (IsLinked b sets notes) e.parents = subst (Each (IsLinked b sets notes)) (c.deref.ensures.value ∙ ap (λ (x : EntityTree). x.parents) c.entity.view_is) (c.are_linked.ensures c.if-not-are_linked.false) in
    (c.loop-entity.invariant.0, each_more (DoesEntityStay b cs sets notes w) w i e within is c.loop-entity.invariant.1 (stays, linked))

pub returns : goal.returns
returns c =
    let b = c.args.links.now.base.now in
    let cs = c.args.links.now.changes.now in
    let w = c.args.upserted.now in
    let past : length w ≤ c.loop-entity.entity-index = subst (λ (es : World). length es ≤ c.loop-entity.entity-index) c.entities-entity-items.ensures c.loop-entity-test.false in
    λ t. links_stay b cs c.args.settled.now.world c.args.noted.now c.args.removed.now w c.loop-entity.invariant.0 (each_all (DoesEntityStay b cs c.args.settled.now.world c.args.noted.now w) w c.loop-entity.entity-index past c.loop-entity.invariant.1)
