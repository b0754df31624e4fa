use Rattle.std.proofs.Common.{◌≡◌, ◌+◌, ◌<◌, ℕ, List, [], ◌∷◌, ◌++◌, length, get_or, take, sym, ap, subst, ◌∙◌}
use Rattle.std.proofs.lemmas.List.{take_more}
use Rattle.std.proofs.lemmas.Slice.Zip.{all_zipped_more}
use Rattle.base_search.specs.Numbered.{AreNumbersOf}
use Rattle.base_search.proofs.Numbering.{lists_kept}
use Rattle.cedar_value.specs.World.{EntityTree, World}
use Rattle.cedar_value.specs.declared.uid.Uid.{Uid}
use Rattle.cedar_store.specs.Private.Kept.{AreParentNumbers, number_in}
use Rattle.cedar_store.proofs.links.links_of.Goals as goal

pub loop-entity-preserved : goal.loop-entity-preserved
loop-entity-preserved c =
    let w = c.args.table.now in
    let i = c.loop-entity.entity-index in
    let e = c.entity-item.result in
    let same = c.entities-entity-items.ensures in
    let old = c.loop-entity.numbers.keys in
    let new = c.number_all.new.numbers.keys in
    let lists = c.loop-entity.lists in
    let numbers = c.deref-in-loop-entity.result.now in
    let within : i < length w = subst (λ (es : World). i < length es) same c.loop-entity-test.true in
    let is : e ≡ get_or w i e = subst (λ (es : World). e ≡ get_or es i e) same c.entity-item.is in
    let more : take (i + 1) w ≡ take i w ++ e ∷ [] = take_more w i e within ∙ ap (λ x. take i w ++ x ∷ []) (sym is) in
    let parents : c.deref.result.now ≡ e.parents = c.deref.ensures.value ∙ ap (λ (x : EntityTree). x.parents) c.entity.view_is in
    let found : AreNumbersOf (number_in new) e.parents numbers =
    subst (λ (ns : List ℕ). AreNumbersOf (number_in new) e.parents ns) (sym c.deref-in-loop-entity.ensures.value)
    (subst (λ (us : List Uid). AreNumbersOf (number_in new) us c.in_ok-parents.parents.items) parents c.in_ok-parents.ensures.found) in
    let before = lists_kept (λ (x : EntityTree). x.parents) (number_in old) (number_in new) c.in_ok-parents.ensures.kept (take i w) lists c.loop-entity.invariant in
    let all = all_zipped_more (λ (x : EntityTree) (ns : List ℕ). AreNumbersOf (number_in new) x.parents ns) (take i w) lists e numbers before found in
    subst (λ (ls : List (List ℕ)). AreParentNumbers new (take (i + 1) w) ls) (sym c.in_ok-push.ensures) (subst (λ (es : World). AreParentNumbers new es (lists ++ numbers ∷ [])) (sym more) all)
