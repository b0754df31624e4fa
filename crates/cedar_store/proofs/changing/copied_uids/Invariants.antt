use Rattle.std.proofs.Common.{◌≡◌, take}
use Rattle.cedar_store.specs.Entities.{uids_of}
use Rattle.cedar_store.proofs.changing.copied_uids.Given as goal

abbrev pub invariant-loop-entity : goal.invariant-loop-entity
invariant-loop-entity l = l.uids.items ≡ uids_of (take l.entity-index l.entities)
