use Rattle.std.proofs.Common.{◌≡◌, ◌++◌}
use Rattle.serde_json.specs.View.{members_view}
use Rattle.cedar_schema_json.specs.Entries.{entries_in}
use Rattle.cedar_schema_json.specs.EntryView.{entries_view}
use Rattle.cedar_schema_json.proofs.json.entry.push_entries.Given as goal

abbrev pub invariant-loop-key : goal.invariant-loop-key
invariant-loop-key l = entries_view l.found.items ++ entries_in l.namespace (members_view l.key-iterator) ≡ entries_view l.initial.found.items ++ entries_in l.namespace (members_view l.members.entries)
