use Rattle.std.proofs.Common.{take}
use Rattle.cedar_store.specs.Entities.{uids_of}
use Rattle.cedar_store.specs.Private.Kept.{ArePlaces}
use Rattle.cedar_store.proofs.entity_table.places_of.Given as goal

abbrev pub invariant-loop-place : goal.invariant-loop-place
invariant-loop-place l = ArePlaces l.places (uids_of (take l.place l.entities))
