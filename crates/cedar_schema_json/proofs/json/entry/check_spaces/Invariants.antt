use Rattle.std.proofs.Common.{◌≡◌}
use Rattle.serde_json.specs.View.{members_view}
use Rattle.cedar_schema_json.specs.Entries.{root_faults}
use Rattle.cedar_schema_json.proofs.json.entry.check_spaces.Given as goal

abbrev pub invariant-loop-namespace : goal.invariant-loop-namespace
invariant-loop-namespace l = root_faults l.language (members_view l.root.entries) ≡ root_faults l.language (members_view l.namespace-iterator)
