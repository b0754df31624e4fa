use Rattle.std.proofs.Common.{drop}
use Rattle.serde_json.specs.View.{items_view}
use Rattle.cedar_schema.specs.Declaring.{member_read}
use Rattle.cedar_schema_json.proofs.ListLemmas.{IsReading}
use Rattle.cedar_schema.proofs.schema.members.read_members.Given as goal

abbrev pub invariant-loop-i : goal.invariant-loop-i
invariant-loop-i l = IsReading (member_read l.language l.uids.keys l.namespace) l.members.items (items_view (drop l.i l.items.items)) (items_view l.items.items)
