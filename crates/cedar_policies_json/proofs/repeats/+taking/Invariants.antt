use Rattle.std.proofs.Common.{◌≡◌, ◌≤◌, ◌+◌, ◌*◌, length}
use Rattle.serde_json.specs.Data.{depth, items_depth, members_depth}
use Rattle.serde_json.specs.View.{view, items_view, members_view}
use Rattle.cedar_policies_json.specs.Repeats.{keys_in, members_in_items, members_in_members}
use Rattle.cedar_policies_json.proofs.repeats.+taking.Given as goal

abbrev pub decreases-take_keys : goal.decreases-take_keys
decreases-take_keys l = 2 * depth (view l.json.now)

abbrev pub decreases-take_keys_of_items : goal.decreases-take_keys_of_items
decreases-take_keys_of_items l = 2 * items_depth (items_view l.items.now) + 1

abbrev pub decreases-take_keys_of_members : goal.decreases-take_keys_of_members
decreases-take_keys_of_members l = 2 * members_depth (members_view l.members.now.entries) + 1

abbrev pub invariant-take_keys_of_items-walk : goal.invariant-take_keys_of_items-walk
invariant-take_keys_of_items-walk l = record {
  taken : keys_in l.fn.reader + members_in_items (items_view l.rest) ≡ members_in_items (items_view l.items) + keys_in l.reader;
  less : items_depth (items_view l.rest) ≤ items_depth (items_view l.items);
}

abbrev pub decreases-take_keys_of_items-walk : goal.decreases-take_keys_of_items-walk
decreases-take_keys_of_items-walk l = length l.rest

abbrev pub invariant-take_keys_of_members-loop-json : goal.invariant-take_keys_of_members-loop-json
invariant-take_keys_of_members-loop-json l = record {
  taken : keys_in l.fn.reader + members_in_members (members_view l.json-iterator) ≡ members_in_members (members_view l.members.entries) + keys_in l.reader;
  less : members_depth (members_view l.json-iterator) ≤ members_depth (members_view l.members.entries);
}
