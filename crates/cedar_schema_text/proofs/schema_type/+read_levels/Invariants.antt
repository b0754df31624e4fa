use Rattle.std.proofs.Common.{◌≡◌, ◌-◌, ◌+◌, ◌*◌, length}
use Rattle.serde_json.specs.View.{members_view}
use Rattle.cedar_schema_text.specs.declared.token_kind.TokenKind.TheVariants as k
use Rattle.cedar_schema_text.specs.Grammar as spec
use Rattle.cedar_schema_text.specs.Reading.{items_from}
use Rattle.cedar_schema_text.proofs.schema_type.+read_levels.Given as goal

abbrev pub decreases-read_levels : goal.decreases-read_levels
decreases-read_levels l = 6 * l.levels

abbrev pub decreases-read_named : goal.decreases-read_named
decreases-read_named l = 6 * l.levels + 2

abbrev pub decreases-read_set : goal.decreases-read_set
decreases-read_set l = 6 * l.levels + 1

abbrev pub decreases-read_record_onto : goal.decreases-read_record_onto
decreases-read_record_onto l = 6 * l.levels + 4

abbrev pub decreases-read_attributes : goal.decreases-read_attributes
decreases-read_attributes l = 6 * l.levels + 3

abbrev pub decreases-read_each_attribute : goal.decreases-read_each_attribute
decreases-read_each_attribute l = 6 * l.levels + 2

abbrev pub decreases-read_attribute : goal.decreases-read_attribute
decreases-read_attribute l = 6 * l.levels + 1

abbrev pub invariant-read_each_attribute-loop-turn : goal.invariant-read_each_attribute-loop-turn
invariant-read_each_attribute-loop-turn l = items_from (spec.attribute (spec.type_onto l.levels)) k.RightBrace (length l.fn.tokens) (members_view l.fn.found.entries) l.fn.tokens ≡ items_from (spec.attribute (spec.type_onto l.levels)) k.RightBrace (l._turn-end - l._turn) (members_view l.found.entries) l.tokens
