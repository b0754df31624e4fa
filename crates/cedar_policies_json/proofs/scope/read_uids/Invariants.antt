use Rattle.std.proofs.Common.{◌≡◌, length}
use Rattle.serde_json.specs.View.{items_view}
use Rattle.cedar_policies_json.specs.Parts.{each_read}
use Rattle.cedar_policies_json.specs.Parts.{uid_read}
use Rattle.cedar_policies_json.proofs.Lists.{prefixed}
use Rattle.cedar_policies_json.proofs.scope.read_uids.Given as goal

-- what was read, before what is left to be read, is all
abbrev pub invariant-walk : goal.invariant-walk
invariant-walk l = each_read uid_read (items_view l.items) ≡ prefixed l.found.items (each_read uid_read (items_view l.rest))

abbrev pub decreases-walk : goal.decreases-walk
decreases-walk l = length l.rest
