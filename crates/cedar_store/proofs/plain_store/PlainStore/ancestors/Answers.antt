use Rattle.std.proofs.Common.{List, refl, ap, ◌∙◌}
use Rattle.std.specs.BTreeSet.{BTreeSet}
use Rattle.std.specs.List.{slice_get}
use Rattle.cedar_value.specs.declared.uid.Uid.{Uid}
use Rattle.cedar_store.proofs.Places.{got}
use Rattle.cedar_store.proofs.Above.{nothing_above}
use Rattle.cedar_store.proofs.PlainRows.{ancestors_at}
use Rattle.cedar_store.proofs.plain_store.PlainStore.ancestors.Goals as goal

pub returns-in-Some : goal.returns-in-Some
returns-in-Some c =
    let read = got c.get.result c.deref.result.now c.in-Some.place c.get.ensures.lookup.3 ∙ ap (λ (rows : List (BTreeSet Uid)). slice_get rows c.in-Some.place) c.deref.ensures.value in
    rw (← c.self.view_is) (ancestors_at c.self.inside.table c.self.inside.ancestors.items c.in-Some.place c.args.low.now c.get.result c.self.invariant ((c.in-Some.ensures c.in-Some.place).0 refl) read)

pub returns-in-None : goal.returns-in-None
returns-in-None c = rw (← c.self.view_is) (nothing_above c.self.inside.table c.args.low.now (λ k at. let place = (c.in-None.ensures k).1 at in cc))
