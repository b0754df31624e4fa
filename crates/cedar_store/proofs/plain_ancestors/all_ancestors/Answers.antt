use Rattle.std.proofs.Common.{◌≡◌, ◌+◌, ◌<◌, List, [], ◌∷◌, ◌++◌, length, get_or, take, false, sym, ap, subst, ◌∙◌}
use Rattle.std.specs.BTreeSet.{BTreeSet, contains}
use Rattle.std.specs.List.{AllZip}
use Rattle.std.proofs.lemmas.List.{take_all, take_more}
use Rattle.std.proofs.lemmas.Slice.Zip.{all_zipped_more}
use Rattle.cedar_value.specs.Order.{uid_cmp}
use Rattle.cedar_value.specs.World.{EntityTree, World}
use Rattle.cedar_value.specs.declared.uid.Uid.{Uid}
use Rattle.cedar_store.specs.Private.Kept.{AreAncestors}
use Rattle.cedar_store.proofs.PlainRows.{IsRow, new_row, HasAncestors-rows, IsAcyclic-rows}
use Rattle.cedar_store.proofs.plain_ancestors.all_ancestors.Goals as goal

pub loop-entity-preserved : goal.loop-entity-preserved
loop-entity-preserved c =
    let w = c.args.table.now in
    let i = c.loop-entity.entity-index in
    let e = c.entity-item.result in
    let same = c.entities-entity-items.ensures in
    let within : i < length w = subst (λ (es : World). i < length es) same c.loop-entity-test.true in
    let is : e ≡ get_or w i e = subst (λ (es : World). e ≡ get_or es i e) same c.entity-item.is in
    let named = ap (λ (x : EntityTree). x.uid) c.entity.view_is in
    let above : AreAncestors w e.uid (contains uid_cmp c.in_ok-ancestors.ancestors) = subst (λ u. AreAncestors w u (contains uid_cmp c.in_ok-ancestors.ancestors)) named c.in_ok-ancestors.ensures in
    let absent : contains uid_cmp c.in_ok-ancestors.ancestors e.uid ≡ false = subst (λ u. contains uid_cmp c.in_ok-ancestors.ancestors u ≡ false) named (sym c.contains.ensures ∙ c.if-contains.false) in
    let row = new_row w e c.in_ok-ancestors.ancestors above absent in
    let more : take (i + 1) w ≡ take i w ++ e ∷ [] = take_more w i e within ∙ ap (λ x. take i w ++ x ∷ []) (sym is) in
    let rows : AllZip (IsRow w) (take i w ++ e ∷ []) (c.loop-entity.rows.items ++ c.in_ok-ancestors.ancestors ∷ []) = all_zipped_more (IsRow w) (take i w) c.loop-entity.rows.items e c.in_ok-ancestors.ancestors c.loop-entity.invariant row in
    subst (λ (rows : List (BTreeSet Uid)). AllZip (IsRow w) (take (i + 1) w) rows) (sym c.in_ok-push.ensures.items) (subst (λ (es : World). AllZip (IsRow w) es (c.loop-entity.rows.items ++ c.in_ok-ancestors.ancestors ∷ [])) (sym more) rows)

pub returns-clause-ancestors : goal.returns-clause-ancestors
returns-clause-ancestors c =
    let same = c.entities-entity-items.ensures in
    let all : take c.loop-entity.entity-index c.args.table.now ≡ c.args.table.now = take_all c.loop-entity.entity-index c.args.table.now (rw same at c.loop-entity-test.false) in
    HasAncestors-rows c.args.table.now c.args.table.now c.loop-entity.rows.items (subst (λ (es : World). AllZip (IsRow c.args.table.now) es c.loop-entity.rows.items) all c.loop-entity.invariant)

pub returns-clause-acyclic : goal.returns-clause-acyclic
returns-clause-acyclic c =
    let same = c.entities-entity-items.ensures in
    let all : take c.loop-entity.entity-index c.args.table.now ≡ c.args.table.now = take_all c.loop-entity.entity-index c.args.table.now (rw same at c.loop-entity-test.false) in
    IsAcyclic-rows c.args.table.now c.loop-entity.rows.items (subst (λ (es : World). AllZip (IsRow c.args.table.now) es c.loop-entity.rows.items) all c.loop-entity.invariant)
