use Rattle.std.proofs.Common.{◌≡◌, ◌-◌}
use Rattle.cedar_parser_expressions.specs.Reading as spec
use Rattle.cedar_parser_expressions.proofs.expression_parser.ExpressionParser.parse_expressions.Given as goal

abbrev pub invariant-loop-turn : goal.invariant-loop-turn
invariant-loop-turn g l = spec.series (spec.nested l.self.depth) l.fn.tokens ≡ spec.series_from (spec.nested l.self.depth) (l._turn-end - l._turn) l.found.items l.tokens
