use Rattle.cedar_store.proofs.Places.{AreUidsDistinct-placed}
use Rattle.cedar_store.proofs.entity_table.EntityTable.uids_are_distinct.Goals as goal

pub returns : goal.returns
returns c = rw (← c.self.view_is) (AreUidsDistinct-placed c.self.inside.places c.self.inside.entities.items c.self.invariant)
