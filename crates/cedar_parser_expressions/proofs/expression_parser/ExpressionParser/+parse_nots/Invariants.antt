use Rattle.cedar_parser_expressions.proofs.expression_parser.ExpressionParser.+parse_nots.Given as goal

abbrev pub decreases-parse_nots : goal.decreases-parse_nots
decreases-parse_nots g l = l.most
