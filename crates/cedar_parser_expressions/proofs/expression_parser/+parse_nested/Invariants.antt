use Rattle.cedar_parser_expressions.proofs.expression_parser.+parse_nested.Given as goal

abbrev pub decreases-parse_nested : goal.decreases-parse_nested
decreases-parse_nested l = l.depth
