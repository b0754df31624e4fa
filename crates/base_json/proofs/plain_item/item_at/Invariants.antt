use Rattle.std.proofs.Common.{◌≡◌, ◌≤◌, ℕ, length, drop}
use Rattle.json.specs.Json.{members, value}
use Rattle.json.specs.Lex.{tokens}
use Rattle.serde_json.specs.Data.{no_members}
use Rattle.serde_json.specs.Read.{of_members, converted}
use Rattle.base_json.specs.LentItems.{put_values}
use Rattle.base_json.specs.Private.Steps.{members_after}
use Rattle.base_json.proofs.plain_item.item_at.Given as goal

-- the members of the object are those that were read, and after them those to come
abbrev pub invariant-members : goal.invariant-members
invariant-members l =
    (n : ℕ) × (length (tokens (drop l.next l.text)) ≤ n)
    × ((depth : ℕ) → 2 ≤ depth → converted (λ ms. of_members ms no_members) (members (value depth) (length (tokens (drop l.initial.next l.text))) (tokens (drop l.initial.next l.text)))
    ≡ members_after (put_values l.members.items no_members) depth n (tokens (drop l.next l.text)))

abbrev pub decreases-members : goal.decreases-members
decreases-members l = length (tokens (drop l.next l.text))
