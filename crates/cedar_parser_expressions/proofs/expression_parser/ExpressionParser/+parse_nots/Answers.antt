use Rattle.std.proofs.Common.{rules, arith}
use Rattle.std.proofs.lemmas.Grind.{common_steps}
use Rattle.cedar_parser_expressions.specs.Reading as spec
use Rattle.cedar_parser_tokens.proofs.Turns.{deeper}
use Rattle.cedar_parser_expressions.proofs.expression_parser.ExpressionParser.+parse_nots.Goals as goal

pub returns-then-not-sees : goal.returns-then-not-sees
unfolding spec.nots
returns-then-not-sees g t c =
    rw (deeper (λ n. spec.nots c.args.self.now.depth (spec.nested c.args.self.now.depth) n c.args.tokens.now) c.args.most (omega arith)) (first_of (search rules, grind (arith, common_steps)))

pub returns-in_err-operand : goal.returns-in_err-operand
unfolding spec.nots
returns-in_err-operand g t c =
    rw (deeper (λ n. spec.nots c.args.self.now.depth (spec.nested c.args.self.now.depth) n c.args.tokens.now) c.args.most (omega arith)) (first_of (search rules, grind (arith, common_steps)))
