use Rattle.std.proofs.Common.{◌≡◌, ◌<◌, Bor, Contains, inl, inr, ⊎_elim, length, get_or, sym, ap, subst, take}
use Rattle.base_reach.proofs.Listed.{from_mapped, mapped}
use Rattle.base_reach.specs.Private.Lent.{lent}
use Rattle.cedar_value.specs.declared.uid.Uid.{Uid}
use Rattle.cedar_store.specs.Private.Overlaid.{IsNoted}
use Rattle.cedar_store.specs.Private.Parts.{IsSifted}
use Rattle.cedar_store.proofs.EachMore.{each_none, each_more, each_all}
use Rattle.cedar_store.proofs.Noted.{noted_before, noted_here, still_noted, still_sifted}
use Rattle.cedar_store.proofs.noting.sifted.Goals as goal

pub loop-uid-init : goal.loop-uid-init
loop-uid-init c =
    (each_none (λ (u : Bor Uid). IsSifted c.args.links.now.base.now c.args.links.now.changes.now (lent c.args.due.now.items) c.args.begun u.now) c.args.found.now, λ p note. note, λ p note. inl note)

pub loop-uid-preserved : goal.loop-uid-preserved
loop-uid-preserved c =
    let b = c.args.links.now.base.now in
    let cs = c.args.links.now.changes.now in
    let us = c.args.found.now in
    let i = c.loop-uid.uid-index in
    let u = c.uid-item.result in
    let old = c.loop-uid.noted in
    let new = c.in_ok-noted.noted in
    let due = c.loop-uid.due.items in
    let due_new = c.push_unless_bare.new.due.items in
    let too = c.in_ok-noted.ensures in (
      each_more (λ (x : Bor Uid). IsSifted b cs (lent due_new) new x.now) us i u c.loop-uid-test.true c.uid-item.is (λ x m. still_sifted b cs due due_new u.now old new c.in_ok-push_unless_bare.ensures.kept too x.now (c.loop-uid.invariant.0 x m))
          (noted_here u.now old new too, c.in_ok-push_unless_bare.ensures.due),
      λ p note. still_noted u.now old new too p (c.loop-uid.invariant.1 p note),
      λ p note. ⊎_elim (λ is. inr (subst (Contains (lent us)) is (mapped (λ (x : Bor Uid). x.now) us u (i, c.loop-uid-test.true, sym c.uid-item.is)))) (λ before. c.loop-uid.invariant.2 p before) (noted_before u.now old new too p note),
    )

pub returns-clause-sifted : goal.returns-clause-sifted
returns-clause-sifted c =
    let b = c.args.links.now.base.now in
    let cs = c.args.links.now.changes.now in
    let us = c.args.found.now in
    let due = lent c.loop-uid.due.items in
    λ p m. (let found = from_mapped (λ (x : Bor Uid). x.now) us p m in
    subst (IsSifted b cs due c.loop-uid.noted) found.2 (each_all (λ (x : Bor Uid). IsSifted b cs due c.loop-uid.noted x.now) us c.loop-uid.uid-index c.loop-uid-test.false c.loop-uid.invariant.0 found.0 found.1))
