use Rattle.std.proofs.Common.{◌≡◌, sym, ap, ◌∙◌, None}
use Rattle.indexmap.specs.IndexMap.{get}
use Rattle.std.specs.Option.{is_some}
use Rattle.cedar_value.specs.Datum.{same_uid}
use Rattle.cedar_value.specs.World.{EntityTree}
use Rattle.cedar_store.proofs.Places.{placed_more, stands_twice, none_is}
use Rattle.cedar_store.proofs.entity_table.places_of.Goals as goal

pub loop-place-preserved : goal.loop-place-preserved
loop-place-preserved c =
    let none : get same_uid c.loop-place.places c.in_ok-try_clone.field-0 ≡ None = sym c.in_ok-earlier.ensures.old ∙ none_is c.in_ok-earlier.earlier (sym c.is_some.ensures ∙ c.if-is_some.false) in
    placed_more c.loop-place.places c.insert.new.self c.args.entities.now c.loop-place.place c.index-entities-place.result c.in_ok-try_clone.field-0 c.loop-place-test.true c.index-entities-place.is
    (c.in_ok-try_clone.ensures ∙ ap (λ (e : EntityTree). e.uid) c.entity.view_is) c.loop-place.invariant none c.in_ok-earlier.ensures.updates

pub returns-then-is_some-clause-refused : goal.returns-then-is_some-clause-refused
returns-then-is_some-clause-refused c =
    let key = c.in_ok-try_clone.ensures ∙ sym c.in_ok-try_clone-2.ensures in
    stands_twice c.loop-place.places c.args.entities.now c.loop-place.place c.index-entities-place.result c.in_ok-try_clone-2.field-0 c.loop-place-test.true c.index-entities-place.is
    (c.in_ok-try_clone-2.ensures ∙ ap (λ (e : EntityTree). e.uid) c.entity.view_is) c.loop-place.invariant
    (ap (λ u. is_some (get same_uid c.loop-place.places u)) (sym key) ∙ ap is_some (sym c.in_ok-earlier.ensures.old) ∙ sym c.is_some.ensures ∙ c.if-is_some.true)
