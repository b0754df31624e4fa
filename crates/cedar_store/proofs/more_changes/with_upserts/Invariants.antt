use Rattle.std.proofs.Common.{◌≡◌, ◌++◌, length}
use Rattle.cedar_value.specs.World.{World, entry_of}
use Rattle.cedar_value.specs.declared.uid.Uid.{Uid}
use Rattle.cedar_store.specs.Private.Called.{after_upsert}
use Rattle.cedar_store.specs.Private.Changing.{change_of}
use Rattle.cedar_store.proofs.more_changes.with_upserts.Given as goal

abbrev pub invariant-last : goal.invariant-last
invariant-last l = (done : World) × (l.entities.items ++ done ≡ l.initial.entities.items) × ((u : Uid) → change_of l.changes u ≡ after_upsert u (entry_of done u) (change_of l.initial.changes u))

abbrev pub decreases-last : goal.decreases-last
decreases-last l = length l.entities.items
