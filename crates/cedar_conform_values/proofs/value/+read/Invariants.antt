use Rattle.std.proofs.Common.{◌≡◌, ◌≤◌, ◌+◌, ◌*◌, ◌++◌, length}
use Rattle.serde_json.specs.View.{view, items_view}
use Rattle.cedar_schema_types.specs.TypeKind.{attributes_of}
use Rattle.cedar_conform_values.specs.Values.{all_read, fields_read, value_read}
use Rattle.cedar_conform_values.proofs.TypeHeights.{height, attributes_height}
use Rattle.cedar_conform_values.proofs.value.+read.Given as goal

abbrev pub decreases-read_value : goal.decreases-read_value
decreases-read_value l = 7 * height l.ty.now

abbrev pub decreases-read_set : goal.decreases-read_set
decreases-read_set l = 7 * height l.member.now + 4

abbrev pub decreases-read_members : goal.decreases-read_members
decreases-read_members l = 7 * height l.member.now + 3

abbrev pub decreases-read_nested : goal.decreases-read_nested
decreases-read_nested l = 7 * attributes_height l.attributes.now + 6

abbrev pub decreases-record_at : goal.decreases-record_at
decreases-record_at l = 7 * attributes_height l.attributes.now + 5

abbrev pub decreases-read_fields : goal.decreases-read_fields
decreases-read_fields l = 7 * attributes_height (attributes_of l.attributes.now) + 3

abbrev pub decreases-add_field : goal.decreases-add_field
decreases-add_field l = 7 * height l.attribute.now.ty + 2

-- what was read, before what is left to read, is all
abbrev pub invariant-read_members-walk : goal.invariant-read_members-walk
invariant-read_members-walk l = record {
  values : l.members.items ++ (all_read (value_read l.member) (items_view l.rest)).values ≡ (all_read (value_read l.member) (items_view l.items)).values;
  faults : (all_read (value_read l.member) (items_view l.rest)).faults ≡ (all_read (value_read l.member) (items_view l.items)).faults;
}

abbrev pub invariant-read_fields-walk : goal.invariant-read_fields-walk
invariant-read_fields-walk l = record {
  pairs : l.pairs.items ++ (fields_read (attributes_of l.rest) (view l.json)).pairs ≡ (fields_read (attributes_of l.attributes) (view l.json)).pairs;
  faults : (fields_read (attributes_of l.rest) (view l.json)).faults ≡ (fields_read (attributes_of l.attributes) (view l.json)).faults;
  less : attributes_height (attributes_of l.rest) ≤ attributes_height (attributes_of l.attributes);
}

abbrev pub decreases-read_members-walk : goal.decreases-read_members-walk
decreases-read_members-walk l = length l.rest

abbrev pub decreases-read_fields-walk : goal.decreases-read_fields-walk
decreases-read_fields-walk l = length l.rest
