use Rattle.cedar_parser_expressions.proofs.expression_parser.ExpressionParser.+parse_minuses.Given as goal

abbrev pub decreases-parse_minuses : goal.decreases-parse_minuses
decreases-parse_minuses g l = l.most
