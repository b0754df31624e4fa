use Rattle.std.proofs.Common.{◌≡◌, ◌-◌}
use Rattle.cedar_parser_statements.specs.StatementReading as spec
use Rattle.cedar_parser_statements.proofs.statement.parse_conditions.Given as goal

abbrev pub invariant-loop-turn : goal.invariant-loop-turn
invariant-loop-turn l = spec.conditions 101 l.fn.tokens ≡ spec.conditions_from 101 (l._turn-end - l._turn) l.found.items l.tokens
