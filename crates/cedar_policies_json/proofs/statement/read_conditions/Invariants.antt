use Rattle.std.proofs.Common.{◌≡◌, length}
use Rattle.serde_json.specs.View.{items_view}
use Rattle.cedar_policies_json.specs.Parts.{each_read}
use Rattle.cedar_policies_json.specs.Statements.{condition_read}
use Rattle.cedar_policies_json.proofs.Lists.{prefixed}
use Rattle.cedar_policies_json.proofs.statement.read_conditions.Given as goal

-- what was read, before what is left to be read, is all
abbrev pub invariant-walk : goal.invariant-walk
invariant-walk l = each_read condition_read (items_view l.items) ≡ prefixed l.found.items (each_read condition_read (items_view l.rest))

abbrev pub decreases-walk : goal.decreases-walk
decreases-walk l = length l.rest
