use Rattle.cedar_text.proofs.Whole.{found_by, only_by, fault_by}
use Rattle.cedar_text.proofs.Places.{order_by, slices_by}
use Rattle.cedar_text.proofs.lexer.tokens.Goals as goal

pub returns-clause-found : goal.returns-clause-found
returns-clause-found c = found_by c.args.source.now c.lex.result c.lex.ensures

pub returns-clause-only : goal.returns-clause-only
returns-clause-only c = only_by c.args.source.now c.lex.result c.lex.ensures

pub returns-clause-fault : goal.returns-clause-fault
returns-clause-fault c = fault_by c.args.source.now c.lex.result c.lex.ensures

pub returns-clause-order : goal.returns-clause-order
returns-clause-order c = order_by c.args.source.now c.lex.result (found_by c.args.source.now c.lex.result c.lex.ensures)

pub returns-clause-slices : goal.returns-clause-slices
returns-clause-slices c = slices_by c.args.source.now c.lex.result c.utf8.source (found_by c.args.source.now c.lex.result c.lex.ensures)
