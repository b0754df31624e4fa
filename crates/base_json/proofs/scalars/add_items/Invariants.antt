use Rattle.std.proofs.Common.{◌≡◌, ℕ, ◌≤◌, length}
use Rattle.base_json.specs.Private.Steps.{items_after}
use Rattle.base_json.proofs.scalars.add_items.Given as goal

abbrev pub invariant-items : goal.invariant-items
invariant-items l =
    ((n depth : ℕ) → length l.initial.reader ≤ n
    → (m : ℕ) × (length l.reader ≤ m) × (items_after l.initial.found.items depth n l.initial.reader ≡ items_after l.found.items depth m l.reader))
    × (length l.reader ≤ length l.initial.reader)

abbrev pub decreases-items : goal.decreases-items
decreases-items l = length l.reader
