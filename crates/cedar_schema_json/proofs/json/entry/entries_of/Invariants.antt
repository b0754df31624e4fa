use Rattle.std.proofs.Common.{◌≡◌, ◌++◌}
use Rattle.serde_json.specs.View.{members_view}
use Rattle.cedar_schema_json.specs.Entries.{entries}
use Rattle.cedar_schema_json.specs.EntryView.{entries_view}
use Rattle.cedar_schema_json.proofs.json.entry.entries_of.Given as goal

abbrev pub invariant-loop-namespace : goal.invariant-loop-namespace
invariant-loop-namespace l = entries_view l.found.items ++ entries l.section (members_view l.namespace-iterator) ≡ entries l.section (members_view l.root.entries)
