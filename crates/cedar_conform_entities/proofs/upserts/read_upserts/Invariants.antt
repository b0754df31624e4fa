use Rattle.std.proofs.Common.{length}
use Rattle.serde_json.specs.View.{items_view}
use Rattle.cedar_conform_entities.proofs.ChangesLemmas.{UpsertsBut}
use Rattle.cedar_conform_entities.proofs.upserts.read_upserts.Given as goal

-- what was read, before what is left to read, is all
abbrev pub invariant-walk : goal.invariant-walk
invariant-walk l = UpsertsBut l.schema (items_view l.entries) (items_view l.rest) l.upserted.items l.written

abbrev pub decreases-walk : goal.decreases-walk
decreases-walk l = length l.rest
