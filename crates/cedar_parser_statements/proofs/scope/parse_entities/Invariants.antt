use Rattle.std.proofs.Common.{◌≡◌, ◌-◌}
use Rattle.cedar_parser_expressions.specs.Reading as spec
use Rattle.cedar_parser_statements.proofs.scope.parse_entities.Given as goal

abbrev pub invariant-loop-turn : goal.invariant-loop-turn
invariant-loop-turn l = spec.series spec.entity l.fn.tokens ≡ spec.series_from spec.entity (l._turn-end - l._turn) l.found.items l.tokens
