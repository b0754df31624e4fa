use Rattle.std.proofs.Common.{◌≡◌, ◌⊎◌, ⊎_elim, All, subst}
use Rattle.std.proofs.lemmas.List.{take_all}
use Rattle.std.proofs.lemmas.List.Elements.{All-contains, All-more}
use Rattle.cedar_value.specs.World.{Below}
use Rattle.cedar_value.specs.Private.Equality.{same_uid-Decides}
use Rattle.cedar_value.specs.declared.uid.Uid.{Uid}
use Rattle.cedar_store.specs.Private.Overlaid.{world_over}
use Rattle.cedar_store.proofs.overlay.Overlay.lead_to.Goals as goal

pub loop-parent-preserved : goal.loop-parent-preserved
loop-parent-preserved c =
    let w = world_over c.args.self.now.base.now.world c.args.self.now.changes.now in
    let high = c.args.high.now in
    let item = c.parent-item.result in
    let apart = λ (p : Uid). ¬ ((p ≡ high) ⊎ Below w p high) in
    let here : apart item =
    ⊎_elim (λ is. (let equal = (same_uid-Decides item high).1 is in let test = c.eq.ensures in let no_more = c.if-eq.false in cc)) (λ d. (let below = c.is_parent_below.ensures.1 d in let no_more = c.if-is_parent_below.false in cc)) in
    All-more apart c.args.parents.now c.loop-parent.parent-index item c.loop-parent-test.true c.loop-parent.invariant (subst apart c.parent-item.is here)

pub returns : goal.returns
returns c =
    let w = world_over c.args.self.now.base.now.world c.args.self.now.changes.now in
    let high = c.args.high.now in
    let ps = c.args.parents.now in
    let apart = λ (p : Uid). ¬ ((p ≡ high) ⊎ Below w p high) in
    let whole = take_all c.loop-parent.parent-index ps c.loop-parent-test.false in
    let all : All apart ps = subst (All apart) whole c.loop-parent.invariant in
    (λ t. absurd (cc), λ h. absurd (All-contains apart ps h.0 all h.1 h.2))
