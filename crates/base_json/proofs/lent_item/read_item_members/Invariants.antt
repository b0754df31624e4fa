use Rattle.std.proofs.Common.{◌≡◌, ℕ, ◌≤◌, length}
use Rattle.json.specs.Json.{members, value}
use Rattle.serde_json.specs.Data.{no_members}
use Rattle.serde_json.specs.Read.{of_members, converted}
use Rattle.base_json.specs.LentItems.{put_values}
use Rattle.base_json.specs.Private.Steps.{members_after}
use Rattle.base_json.proofs.lent_item.read_item_members.Given as goal

-- the members of the object are those that were read, and after them those to come
abbrev pub invariant-members : goal.invariant-members
invariant-members l =
    (n : ℕ) × (length l.reader ≤ n)
    × (converted (λ ms. of_members ms no_members) (members (value l.depth) (length l.initial.reader) l.initial.reader) ≡ members_after (put_values l.found.items no_members) l.depth n l.reader)
    × (length l.reader ≤ length l.initial.reader)

abbrev pub decreases-members : goal.decreases-members
decreases-members l = length l.reader
