use Rattle.std.proofs.Common.{◌∙◌}
use Rattle.cedar_store.proofs.Places.{has_entity-placed}
use Rattle.cedar_store.proofs.base.BaseHierarchy.has.Goals as goal

pub returns : goal.returns
returns c = rw (← c.self.view_is) (c.is_some.ensures ∙ has_entity-placed c.self.inside.table c.args.entity.now c.place.result c.place.ensures)
