use Rattle.std.proofs.Common.{◌≡◌, ◌+◌, ◌<◌, ◌≤◌, ◌++◌, ◌∷◌, [], List, length, get_or, take, sym, ap, subst, ◌∙◌}
use Rattle.std.proofs.lemmas.List.{take_all, take_more, map-append}
use Rattle.cedar_value.specs.World.{World, EntityTree}
use Rattle.cedar_value.specs.declared.uid.Uid.{Uid}
use Rattle.cedar_store.specs.Entities.{uids_of}
use Rattle.cedar_store.proofs.changing.copied_uids.Goals as goal

pub loop-entity-preserved : goal.loop-entity-preserved
loop-entity-preserved c =
    let w = c.args.entities.now in
    let i = c.loop-entity.entity-index in
    let e = c.entity-item.result in
    let same = c.entities-entity-items.ensures in
    let within : i < length w = subst (λ (es : World). i < length es) same c.loop-entity-test.true in
    let is : e ≡ get_or w i e = subst (λ (es : World). e ≡ get_or es i e) same c.entity-item.is in
    let more : take (i + 1) w ≡ take i w ++ e ∷ [] = take_more w i e within ∙ ap (λ x. take i w ++ x ∷ []) (sym is) in
    let named = c.in_ok-try_clone.ensures ∙ ap (λ (x : EntityTree). x.uid) c.entity.view_is in
    c.in_ok-push.ensures.items ∙ ap (λ (us : List Uid). us ++ c.in_ok-try_clone.field-0 ∷ []) c.loop-entity.invariant ∙ ap (λ (u : Uid). uids_of (take i w) ++ u ∷ []) named
    ∙ sym (map-append (λ (x : EntityTree). x.uid) (take i w) (e ∷ [])) ∙ ap uids_of (sym more)

pub returns : goal.returns
returns c =
    let w = c.args.entities.now in
    let past : length w ≤ c.loop-entity.entity-index = subst (λ (es : World). length es ≤ c.loop-entity.entity-index) c.entities-entity-items.ensures c.loop-entity-test.false in
    c.loop-entity.invariant ∙ ap uids_of (take_all c.loop-entity.entity-index w past)
