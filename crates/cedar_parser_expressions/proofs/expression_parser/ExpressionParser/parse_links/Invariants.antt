use Rattle.std.proofs.Common.{◌≡◌, ◌-◌}
use Rattle.cedar_parser_expressions.specs.Reading as spec
use Rattle.cedar_parser_expressions.proofs.expression_parser.ExpressionParser.parse_links.Given as goal

abbrev pub invariant-loop-turn : goal.invariant-loop-turn
invariant-loop-turn g l = spec.links_of l.self.depth (spec.nested l.self.depth) l.level l.fn.tokens ≡ spec.links_from (spec.signs_of l.level) (spec.operand_of l.self.depth (spec.nested l.self.depth) l.level) (l._turn-end - l._turn) l.found.items l.tokens
