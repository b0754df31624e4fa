use Rattle.std.proofs.Common.{◌≡◌, ◌<◌, ◌≤◌, [], List, length, get_or, Bor, Contains, subst, sym, ◌∙◌}
use Rattle.base_reach.proofs.Listed.{from_mapped, here}
use Rattle.base_reach.specs.Private.Lent.{lent}
use Rattle.cedar_value.specs.World.{World, parents_of}
use Rattle.cedar_value.specs.declared.uid.Uid.{Uid}
use Rattle.cedar_store.specs.Private.Overlaid.{world_over}
use Rattle.cedar_store.specs.Private.Parts.{GainsUids}
use Rattle.cedar_store.proofs.EachMore.{each_none, each_more, each_all}
use Rattle.cedar_store.proofs.Parts.{IsGrown, gains_before, grown_more, grown_part, grown_start}
use Rattle.cedar_store.proofs.part.part_above.Goals as goal

pub loop-uid-init : goal.loop-uid-init
loop-uid-init c = each_none (λ (u : Bor Uid). Contains c.with_hasher-met.result.keys u.now) c.args.due.now

pub loop-uid-preserved : goal.loop-uid-preserved
loop-uid-preserved c =
    let us = c.args.due.now in
    let i = c.loop-uid.uid-index in
    let u = c.uid-item.result in
    let old = c.loop-uid.met.keys in
    let new = c.meet.new.met.keys in
    let gains = c.in_ok-meet.ensures in
    each_more (λ (x : Bor Uid). Contains new x.now) us i u c.loop-uid-test.true c.uid-item.is (λ x m. gains_before old _ new gains x.now (c.loop-uid.invariant x m)) (gains.gained u.now (here u.now []))

pub loop-place-init : goal.loop-place-init
loop-place-init c =
    let us = c.args.due.now in
    let keys = c.loop-uid.met.keys in
    let w = world_over c.args.links.now.base.now.world c.args.links.now.changes.now in
    subst (λ (es : World). IsGrown w (lent us) keys es 0) (sym c.new-part.ensures.items)
    (grown_start w (lent us) keys
    (λ p m. (let found = from_mapped (λ (x : Bor Uid). x.now) us p m in
    subst (Contains keys) found.2 (each_all (λ (x : Bor Uid). Contains keys x.now) us c.loop-uid.uid-index c.loop-uid-test.false c.loop-uid.invariant found.0 found.1))))

pub loop-place-preserved : goal.loop-place-preserved
loop-place-preserved c =
    let w = world_over c.args.links.now.base.now.world c.args.links.now.changes.now in
    let keys = c.loop-place.met.keys in
    let place = c.loop-place.place in
    let u = c.in-Some.uid.now in
    let held = c.in-Some.ensures.lookup.3 in
    let within : place < length keys = subst (λ (us : List Uid). place < length us) c.as_slice.ensures.keys held.0 in
    let is : u ≡ get_or keys place u = subst (λ (us : List Uid). u ≡ get_or us place u) c.as_slice.ensures.keys (held.1 u) in
    let gains : GainsUids keys (parents_of w u) c.meet_all.new.met.keys = subst (λ (us : List Uid). GainsUids keys us c.meet_all.new.met.keys) c.links-parents.ensures c.in_ok-meet_all.ensures in
    grown_more w (lent c.args.due.now) keys c.meet_all.new.met.keys c.loop-place.part.items c.push.new.self.items place c.in_ok-bare.field-0 u within is c.in_ok-bare.ensures.uid (c.in_ok-bare.ensures.parents ∙ c.links-parents.ensures) c.in_ok-push.ensures.items gains c.loop-place.invariant

pub returns-in_default : goal.returns-in_default
returns-in_default c =
    let w = world_over c.args.links.now.base.now.world c.args.links.now.changes.now in
    let keys = c.loop-place.met.keys in
    let past : length keys ≤ c.loop-place.place = subst (λ (us : List Uid). length us ≤ c.loop-place.place) c.as_slice.ensures.keys c.in_default.ensures.lookup.3 in
    grown_part w (lent c.args.due.now) keys c.loop-place.part.items c.loop-place.place c.loop-place.invariant past c.as_slice.ensures.unique
