use Rattle.std.proofs.Common.{◌≡◌, ◌+◌, ◌*◌, ◌++◌, List}
use Rattle.serde_json.specs.Data.{depth, members_depth}
use Rattle.serde_json.specs.View.{view, members_view}
use Rattle.serde_json.proofs.Views.{Entry}
use Rattle.cedar_schema_json.specs.Reading.{all_rows}
use Rattle.cedar_schema_json.specs.Reads.{scope_of}
use Rattle.cedar_schema_json.proofs.FormLemmas.{after}
use Rattle.cedar_schema_json.proofs.form.reading.+read.Given as goal

abbrev pub decreases-read_type : goal.decreases-read_type
decreases-read_type l = 4 * depth (view l.json.now) + 2

abbrev pub decreases-read_kind : goal.decreases-read_kind
decreases-read_kind l = 4 * depth (view l.json.now) + 1

abbrev pub decreases-read_attributes : goal.decreases-read_attributes
decreases-read_attributes l = 4 * depth (view l.json.now) + 1

abbrev pub decreases-read_set : goal.decreases-read_set
decreases-read_set l = 4 * depth (view l.json.now)

abbrev pub decreases-read_record : goal.decreases-read_record
decreases-read_record l = 4 * depth (view l.json.now)

abbrev pub decreases-read_fields : goal.decreases-read_fields
decreases-read_fields l = 4 * members_depth (members_view l.members.now.entries) + 4

abbrev pub decreases-read_field : goal.decreases-read_field
decreases-read_field l = 4 * depth (view l.attribute.now) + 3

-- what was read, and what is left to read, is all
abbrev pub invariant-read_fields-loop-key : goal.invariant-read_fields-loop-key
invariant-read_fields-loop-key l = record {
  rows : after l.fields.items (all_rows (scope_of l.scope) (members_view l.key-iterator)) ≡ all_rows (scope_of l.scope) (members_view l.members.entries);
  seen : (done : List Entry) × (l.members.entries ≡ done ++ l.key-iterator);
}
