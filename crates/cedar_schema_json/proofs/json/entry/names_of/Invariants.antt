use Rattle.std.proofs.Common.{◌≡◌, take}
use Rattle.cedar_schema_json.specs.Entries.{whole_names}
use Rattle.cedar_schema_json.specs.EntryView.{entries_view}
use Rattle.cedar_schema_json.proofs.json.entry.names_of.Given as goal

abbrev pub invariant-loop-entry : goal.invariant-loop-entry
invariant-loop-entry l = l.names.items ≡ whole_names (entries_view (take l.entry-index l.entries))
