use Rattle.std.proofs.Common.{◌≡◌, ap, ◌∙◌}
use Rattle.std.specs.List.{slice_get}
use Rattle.cedar_value.specs.World.{World}
use Rattle.cedar_store.proofs.Places.{entry_of-placed, entry_of-unplaced, got}
use Rattle.cedar_store.proofs.entity_table.EntityTable.get.Goals as goal

pub returns-in-Some : goal.returns-in-Some
returns-in-Some c =
    let is : c.deref.result.now ≡ c.args.self.now = c.deref.ensures.value ∙ c.self.view_is in
    got c.get.result c.deref.result.now c.in-Some.place c.get.ensures.lookup.3 ∙ ap (λ (w : World). slice_get w c.in-Some.place) is ∙ entry_of-placed c.args.self.now c.args.uid.now c.in-Some.place c.in-Some.ensures

pub returns-in-None : goal.returns-in-None
returns-in-None c = entry_of-unplaced c.args.self.now c.args.uid.now c.in-None.ensures
