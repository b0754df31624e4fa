use Rattle.std.proofs.Common.{◌≡◌, length}
use Rattle.serde_json.specs.View.{items_view}
use Rattle.cedar_policies_json.specs.Parts.{each_read}
use Rattle.cedar_policies_json.specs.PolicyFiles.{link_read}
use Rattle.cedar_policies_json.proofs.Lists.{prefixed}
use Rattle.cedar_policies_json.proofs.link.read_links.Given as goal

-- what was read, before what is left to be read, is all
abbrev pub invariant-walk : goal.invariant-walk
invariant-walk l = each_read link_read (items_view l.items) ≡ prefixed l.links.items (each_read link_read (items_view l.rest))

abbrev pub decreases-walk : goal.decreases-walk
decreases-walk l = length l.rest
