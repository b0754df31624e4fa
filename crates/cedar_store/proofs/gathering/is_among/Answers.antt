use Rattle.std.proofs.Common.{◌≡◌, true, All, Bor, Contains, refl, subst, sym}
use Rattle.std.proofs.lemmas.List.{take_all}
use Rattle.std.proofs.lemmas.List.Elements.{All-contains, All-more}
use Rattle.base_reach.specs.Private.Lent.{lent}
use Rattle.base_reach.proofs.Listed.{from_mapped, mapped}
use Rattle.cedar_value.specs.Datum.{same_uid}
use Rattle.cedar_value.specs.Private.Equality.{same_uid-Decides}
use Rattle.cedar_value.specs.declared.uid.Uid.{Uid}
use Rattle.cedar_store.proofs.gathering.is_among.Goals as goal

pub returns-then-eq : goal.returns-then-eq
returns-then-eq c =
    let item = c.known-item.result in
    let test = c.eq.ensures in
    let yes = c.if-eq.true in
    let tie : same_uid item.now c.args.uid.now ≡ true = cc in
    let there : Contains c.args.uids.now item = (c.loop-known.known-index, c.loop-known-test.true, sym c.known-item.is) in
    (λ t. subst (Contains (lent c.args.uids.now)) ((same_uid-Decides item.now c.args.uid.now).0 tie) (mapped (λ (u : Bor Uid). u.now) c.args.uids.now item there), λ m. refl)

pub loop-known-preserved : goal.loop-known-preserved
loop-known-preserved c =
    let item = c.known-item.result in
    let apart = λ (p : Bor Uid). ¬ (p.now ≡ c.args.uid.now) in
    let here : apart item = λ is. (let equal = (same_uid-Decides item.now c.args.uid.now).1 is in let test = c.eq.ensures in let no_more = c.if-eq.false in cc) in
    All-more apart c.args.uids.now c.loop-known.known-index item c.loop-known-test.true c.loop-known.invariant (subst apart c.known-item.is here)

pub returns : goal.returns
returns c =
    let us = c.args.uids.now in
    let apart = λ (p : Bor Uid). ¬ (p.now ≡ c.args.uid.now) in
    let whole = take_all c.loop-known.known-index us c.loop-known-test.false in
    let all : All apart us = subst (All apart) whole c.loop-known.invariant in
    (λ t. absurd (cc), λ m. (let some = from_mapped (λ (u : Bor Uid). u.now) us c.args.uid.now m in absurd (All-contains apart us some.0 all some.1 some.2)))
