use Rattle.std.proofs.Common.{◌≡◌, ◌-◌}
use Rattle.cedar_parser_statements.specs.StatementReading as spec
use Rattle.cedar_parser_statements.proofs.statement.parse_annotations.Given as goal

abbrev pub invariant-loop-turn : goal.invariant-loop-turn
invariant-loop-turn l = spec.annotations l.fn.tokens ≡ spec.annotations_from (l._turn-end - l._turn) l.found.items l.tokens
