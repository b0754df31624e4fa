use Rattle.std.proofs.Common.{◌≡◌, ◌+◌, ◌∷◌, List, length, drop, sym, ap, ◌∙◌, subst}
use Rattle.std.proofs.lemmas.List.{drop_all, drop_more}
use Rattle.base_json.specs.LentObjects.{items_of_objects, object_view}
use Rattle.base_json.specs.declared.lent_object.LentObject.{LentObject}
use Rattle.cedar_value.specs.declared.uid.Uid.{Uid}
use Rattle.cedar_conform_entities.proofs.EntryLemmas.{AreUidsBut, uids_end, uids_more, uids_start}
use Rattle.cedar_conform_entities.proofs.plain.object_uids.Goals as goal

pub loop-object-init : goal.loop-object-init
loop-object-init c =
    let all = items_of_objects c.args.objects.now in
    subst (λ (us : List Uid). AreUidsBut us all all) (sym c.in_ok-uids.ensures.items) (uids_start all)

pub loop-object-preserved : goal.loop-object-preserved
loop-object-preserved c =
    let objects = c.args.objects.now in
    let i = c.loop-object.object-index in
    let o = c.object-item.result in
    let next : drop i objects ≡ o ∷ drop (i + 1) objects = drop_more objects i o c.loop-object-test.true ∙ ap (λ (x : LentObject). x ∷ drop (i + 1) objects) (sym c.object-item.is) in
    uids_more object_view c.loop-object.uids.items c.push.new.self.items (drop i objects) (drop (i + 1) objects) o (items_of_objects objects) c.in-Some.uid next (rw c.in-Some.is at c.in_ok-uid.ensures) c.in_ok-push.ensures.items c.loop-object.invariant

pub returns : goal.returns
returns c =
    let objects = c.args.objects.now in
    let i = c.loop-object.object-index in
    uids_end object_view c.loop-object.uids.items (drop i objects) (items_of_objects objects) (ap length (drop_all i objects c.loop-object-test.false)) c.loop-object.invariant
