use Rattle.std.proofs.Common.{◌≡◌}
use Rattle.serde_json.specs.View.{members_view}
use Rattle.cedar_policies_json.specs.Parts.{members_read}
use Rattle.cedar_policies_json.specs.PolicyFiles.{named_read}
use Rattle.cedar_policies_json.proofs.Lists.{prefixed}
use Rattle.cedar_policies_json.proofs.policy_file.all_named.Given as goal

-- what was read, before what is left to be read, is all
abbrev pub invariant-loop-id : goal.invariant-loop-id
invariant-loop-id l = members_read (named_read l.is_template) (members_view l.members.entries) ≡ prefixed l.found.items (members_read (named_read l.is_template) (members_view l.id-iterator))
