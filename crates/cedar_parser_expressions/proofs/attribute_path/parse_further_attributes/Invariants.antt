use Rattle.std.proofs.Common.{◌≡◌, ◌-◌}
use Rattle.cedar_parser_expressions.specs.Reading as spec
use Rattle.cedar_parser_expressions.proofs.attribute_path.parse_further_attributes.Given as goal

abbrev pub invariant-loop-turn : goal.invariant-loop-turn
invariant-loop-turn l = spec.further l.fn.tokens ≡ spec.further_from (l._turn-end - l._turn) l.found.items l.tokens
