use Rattle.std.proofs.Common.{length}
use Rattle.serde_json.specs.View.{items_view}
use Rattle.cedar_conform_entities.proofs.EntryLemmas.{AreUidsBut}
use Rattle.cedar_conform_entities.proofs.written.read_uids.Given as goal

-- what was read, before what is left to read, is all
abbrev pub invariant-walk : goal.invariant-walk
invariant-walk l = AreUidsBut l.uids.items (items_view l.rest) (items_view l.items)

abbrev pub decreases-walk : goal.decreases-walk
decreases-walk l = length l.rest
