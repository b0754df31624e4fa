use Rattle.std.proofs.Common.{◌≡◌}
use Rattle.serde_json.specs.View.{members_view}
use Rattle.cedar_schema_json.specs.Annotations.{all_strings}
use Rattle.cedar_schema_json.proofs.json.annotations.all_strings.Given as goal

-- whether all members are strings is whether those are that are left
abbrev pub invariant-loop-value : goal.invariant-loop-value
invariant-loop-value l = all_strings (members_view l.members.entries) ≡ all_strings (members_view l.value-iterator)
