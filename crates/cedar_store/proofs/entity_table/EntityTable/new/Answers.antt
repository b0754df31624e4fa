use Rattle.cedar_store.proofs.Places.{AreUidsDistinct-placed}
use Rattle.cedar_store.proofs.entity_table.EntityTable.new.Goals as goal

pub returns-clause-distinct : goal.returns-clause-distinct
returns-clause-distinct c = AreUidsDistinct-placed c.in_ok-places.places c.args.entities.items (rw c.deref.ensures.value at c.in_ok-places.ensures.places)
