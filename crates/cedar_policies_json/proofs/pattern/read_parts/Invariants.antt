use Rattle.std.proofs.Common.{◌≡◌, length}
use Rattle.serde_json.specs.View.{items_view}
use Rattle.cedar_policies_json.specs.Expressions.{parts_read}
use Rattle.cedar_policies_json.proofs.Lists.{prefixed}
use Rattle.cedar_policies_json.proofs.pattern.read_parts.Given as goal

-- what was read, before what is left to be read, is all
abbrev pub invariant-walk : goal.invariant-walk
invariant-walk l = parts_read (items_view l.parts) ≡ prefixed l.elements.items (parts_read (items_view l.rest))

abbrev pub decreases-walk : goal.decreases-walk
decreases-walk l = length l.rest
