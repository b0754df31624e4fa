use Rattle.std.proofs.Common.{arith}
use Rattle.cedar_parser_expressions.specs.Reading as spec
use Rattle.cedar_parser_tokens.proofs.Turns.{deeper, none_deep}
use Rattle.cedar_parser_expressions.proofs.expression_parser.+parse_nested.Goals as goal

pub returns-then-depth-eq0 : goal.returns-then-depth-eq0
unfolding spec.nested
returns-then-depth-eq0 t c = none_deep (λ n. spec.nested n c.args.tokens.now) c.args.depth (omega arith)

pub returns : goal.returns
unfolding spec.nested
returns t c = rw (deeper (λ n. spec.nested n c.args.tokens.now) c.args.depth (omega arith)) c.parse_expression.ensures
