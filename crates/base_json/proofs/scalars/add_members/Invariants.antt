use Rattle.std.proofs.Common.{◌≡◌, ℕ, ◌≤◌, length}
use Rattle.serde_json.specs.View.{members_view}
use Rattle.base_json.specs.Private.Steps.{members_after, with_member}
use Rattle.base_json.proofs.scalars.add_members.Given as goal

abbrev pub invariant-members : goal.invariant-members
invariant-members l =
    ((n depth : ℕ) → length l.initial.reader ≤ n
    → (m : ℕ) × (length l.reader ≤ m)
    × (members_after (with_member l.initial.last (members_view l.initial.found.entries)) depth n l.initial.reader ≡ members_after (with_member l.last (members_view l.found.entries)) depth m l.reader))
    × (length l.reader ≤ length l.initial.reader)

abbrev pub decreases-members : goal.decreases-members
decreases-members l = length l.reader
