use Rattle.std.proofs.Common.{◌≡◌, ◌+◌, ◌*◌, length}
use Rattle.serde_json.specs.View.{items_view, members_view}
use Rattle.cedar_policies_json.specs.Parts.{each_read, members_read}
use Rattle.cedar_policies_json.specs.Expressions.{entry_read, written_read}
use Rattle.cedar_policies_json.proofs.Lists.{prefixed}
use Rattle.cedar_policies_json.proofs.expression.+read.Given as goal

abbrev pub decreases-read : goal.decreases-read
decreases-read l = 10 * l.depth

abbrev pub decreases-read_expression : goal.decreases-read_expression
decreases-read_expression l = 10 * l.depth + 9

abbrev pub decreases-read_form : goal.decreases-read_form
decreases-read_form l = 10 * l.depth + 8

abbrev pub decreases-part_at : goal.decreases-part_at
decreases-part_at l = 10 * l.depth + 2

abbrev pub decreases-operand_at : goal.decreases-operand_at
decreases-operand_at l = 10 * l.depth + 3

abbrev pub decreases-read_one : goal.decreases-read_one
decreases-read_one l = 10 * l.depth + 4

abbrev pub decreases-read_two : goal.decreases-read_two
decreases-read_two l = 10 * l.depth + 4

abbrev pub decreases-read_attribute : goal.decreases-read_attribute
decreases-read_attribute l = 10 * l.depth + 4

abbrev pub decreases-read_like : goal.decreases-read_like
decreases-read_like l = 10 * l.depth + 4

abbrev pub decreases-read_typed : goal.decreases-read_typed
decreases-read_typed l = 10 * l.depth + 4

abbrev pub decreases-read_is : goal.decreases-read_is
decreases-read_is l = 10 * l.depth + 5

abbrev pub decreases-read_choice : goal.decreases-read_choice
decreases-read_choice l = 10 * l.depth + 4

abbrev pub decreases-read_set : goal.decreases-read_set
decreases-read_set l = 10 * l.depth + 4

abbrev pub decreases-read_record : goal.decreases-read_record
decreases-read_record l = 10 * l.depth + 4

abbrev pub decreases-read_call : goal.decreases-read_call
decreases-read_call l = 10 * l.depth + 4

abbrev pub decreases-read_items : goal.decreases-read_items
decreases-read_items l = 10 * l.depth + 1

abbrev pub decreases-read_entries : goal.decreases-read_entries
decreases-read_entries l = 10 * l.depth + 3

abbrev pub decreases-read_entry : goal.decreases-read_entry
decreases-read_entry l = 10 * l.depth + 1

abbrev pub decreases-read_value : goal.decreases-read_value
decreases-read_value l = 10 * l.depth + 9

abbrev pub decreases-read_object : goal.decreases-read_object
decreases-read_object l = 10 * l.depth + 8

-- what was read, before what is left to be read, is all
abbrev pub invariant-read_items-walk : goal.invariant-read_items-walk
invariant-read_items-walk l = each_read (written_read l.mode l.depth) (items_view l.items) ≡ prefixed l.found.items (each_read (written_read l.mode l.depth) (items_view l.rest))

abbrev pub decreases-read_items-walk : goal.decreases-read_items-walk
decreases-read_items-walk l = length l.rest

-- what was read, before what is left to be read, is all
abbrev pub invariant-read_entries-loop-key : goal.invariant-read_entries-loop-key
invariant-read_entries-loop-key l = members_read (entry_read (written_read l.mode l.depth)) (members_view l.members.entries) ≡ prefixed l.fields.items (members_read (entry_read (written_read l.mode l.depth)) (members_view l.key-iterator))
