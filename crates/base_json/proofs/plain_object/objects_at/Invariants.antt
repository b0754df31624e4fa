use Rattle.std.proofs.Common.{◌≡◌, ◌≤◌, ℕ, length, drop}
use Rattle.json.specs.Json.{items, value, parse_map}
use Rattle.json.specs.Lex.{tokens}
use Rattle.serde_json.specs.Read.{of_items, converted}
use Rattle.base_json.specs.Private.Plain.{objects_before}
use Rattle.base_json.proofs.plain_object.objects_at.Given as goal

-- the items of the list are the objects that were read, and after them those to come
abbrev pub invariant-objects : goal.invariant-objects
invariant-objects l =
    (n : ℕ) × (length (tokens (drop l.next l.text)) ≤ n)
    × ((depth : ℕ) → 1 ≤ depth → converted of_items (items (value depth) (length (tokens (drop l.initial.next l.text))) (tokens (drop l.initial.next l.text)))
    ≡ parse_map (objects_before l.objects.items) (converted of_items (items (value depth) n (tokens (drop l.next l.text)))))

abbrev pub decreases-objects : goal.decreases-objects
decreases-objects l = length (tokens (drop l.next l.text))
