use Rattle.cedar_parser_statements.proofs.StatementClauses.{found_by, only_by, fault_by}
use Rattle.cedar_parser_statements.proofs.statement.parse_statement.Goals as goal

pub returns-clause-found : goal.returns-clause-found
returns-clause-found c = found_by c.args.tokens.now c.parse_statement_parts.new.tokens c.parse_statement_parts.result c.parse_statement_parts.ensures

pub returns-clause-only : goal.returns-clause-only
returns-clause-only c = only_by c.args.tokens.now c.parse_statement_parts.new.tokens c.parse_statement_parts.result c.parse_statement_parts.ensures

pub returns-clause-fault : goal.returns-clause-fault
returns-clause-fault c = fault_by c.args.tokens.now c.parse_statement_parts.new.tokens c.parse_statement_parts.result c.parse_statement_parts.ensures
