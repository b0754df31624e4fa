use Rattle.std.proofs.Common.{◌≡◌}
use Rattle.serde_json.specs.View.{members_view}
use Rattle.cedar_policies_json.specs.Parts.{members_read}
use Rattle.cedar_policies_json.specs.Statements.{annotation_read}
use Rattle.cedar_policies_json.proofs.Lists.{prefixed}
use Rattle.cedar_policies_json.proofs.statement.read_notes.Given as goal

-- what was read, before what is left to be read, is all
abbrev pub invariant-loop-key : goal.invariant-loop-key
invariant-loop-key l = members_read annotation_read (members_view l.members.entries) ≡ prefixed l.notes.items (members_read annotation_read (members_view l.key-iterator))
