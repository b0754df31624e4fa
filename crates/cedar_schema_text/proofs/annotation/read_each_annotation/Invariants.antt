use Rattle.std.proofs.Common.{◌≡◌, ◌-◌, length}
use Rattle.serde_json.specs.View.{members_view}
use Rattle.cedar_schema_text.specs.Grammar as spec
use Rattle.cedar_schema_text.proofs.annotation.read_each_annotation.Given as goal

abbrev pub invariant-loop-turn : goal.invariant-loop-turn
invariant-loop-turn l = spec.annotations_from (length l.fn.tokens) (members_view l.fn.found.entries) l.fn.tokens ≡ spec.annotations_from (l._turn-end - l._turn) (members_view l.found.entries) l.tokens
