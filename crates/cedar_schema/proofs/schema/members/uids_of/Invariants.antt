use Rattle.std.proofs.Common.{◌≡◌, [], drop}
use Rattle.cedar_schema_json.specs.EntryView.{entries_view}
use Rattle.cedar_schema.specs.Schemas.{uids_onto}
use Rattle.cedar_schema.proofs.schema.members.uids_of.Given as goal

abbrev pub invariant-loop-i : goal.invariant-loop-i
invariant-loop-i l = uids_onto l.uids.keys (entries_view (drop l.i l.entries)) ≡ uids_onto [] (entries_view l.entries)
