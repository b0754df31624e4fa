use Rattle.std.proofs.Common.{◌≡◌, true, ◌⊎◌, inl, inr, refl, ⊎_elim, All, Contains, subst, sym, ◌∙◌}
use Rattle.std.proofs.lemmas.List.{take_all}
use Rattle.std.proofs.lemmas.List.Elements.{All-contains, All-more}
use Rattle.cedar_value.proofs.Members.{has_member-Contains}
use Rattle.cedar_value.specs.Datum.{uid}
use Rattle.cedar_value.specs.Sets.{has_member}
use Rattle.cedar_value.specs.World.{Below}
use Rattle.cedar_value.specs.declared.uid.Uid.{Uid}
use Rattle.cedar_store.specs.Private.Overlaid.{world_over}
use Rattle.cedar_store.proofs.overlay.Overlay.lead_to_any.Goals as goal
use Rattle.cedar_store.proofs.overlay.Overlay.lead_to_any.Goals.{then-has-via-then-has, then-has-via-else-has+then-is_parent_below_any}

pub returns-then-has : goal.returns-then-has
returns-then-has c =
    let highs = c.args.highs.now in
    let item = c.parent-item.result in
    let here : Contains c.args.parents.now item = (c.loop-parent.parent-index, c.loop-parent-test.true, sym c.parent-item.is) in
    elim c.then-has.branch [
      | then-has-via-then-has w ↦ (λ t. (item, here, item, (has_member-Contains highs (uid item)).0 (sym c.has.ensures ∙ w.if-has.true), inl refl), λ h. refl)
      | then-has-via-else-has+then-is_parent_below_any w ↦ (let d = w.is_parent_below_any.ensures.0 w.if-is_parent_below_any.true in (λ t. (item, here, d.0, d.1, inr d.2), λ h. refl))
    ]

pub loop-parent-preserved : goal.loop-parent-preserved
loop-parent-preserved c =
    let w = world_over c.args.self.now.base.now.world c.args.self.now.changes.now in
    let highs = c.args.highs.now in
    let item = c.parent-item.result in
    let apart = λ (p : Uid). ¬ ((v : Uid) × Contains highs (uid v) × ((p ≡ v) ⊎ Below w p v)) in
    let here : apart item = λ h.
    ⊎_elim (λ is. (let there : has_member highs (uid item) ≡ true = (has_member-Contains highs (uid item)).1 (subst (λ (v : Uid). Contains highs (uid v)) (sym is) h.1) in let test = c.has.ensures in let no_more = c.if-has.false in cc))
    (λ d. (let below = c.is_parent_below_any.ensures.1 (h.0, h.1, d) in let no_more = c.if-is_parent_below_any.false in cc)) h.2 in
    All-more apart c.args.parents.now c.loop-parent.parent-index item c.loop-parent-test.true c.loop-parent.invariant (subst apart c.parent-item.is here)

pub returns : goal.returns
returns c =
    let w = world_over c.args.self.now.base.now.world c.args.self.now.changes.now in
    let highs = c.args.highs.now in
    let ps = c.args.parents.now in
    let apart = λ (p : Uid). ¬ ((v : Uid) × Contains highs (uid v) × ((p ≡ v) ⊎ Below w p v)) in
    let whole = take_all c.loop-parent.parent-index ps c.loop-parent-test.false in
    let all : All apart ps = subst (All apart) whole c.loop-parent.invariant in
    (λ t. absurd (cc), λ h. absurd (All-contains apart ps h.0 all h.1 (h.2, h.3, h.4)))
