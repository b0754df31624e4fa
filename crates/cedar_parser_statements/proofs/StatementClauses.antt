-- What the outcome of reading a statement says in the grammar's words.
use Rattle.std.proofs.Common.{◌≡◌, subst, Result, Ok, Err}
use Rattle.std.specs.Prelude.{IfOk, IfErr}
use Rattle.cedar_parser_tokens.specs.Marks.{Marks}
use Rattle.cedar_parser_tokens.specs.declared.parse_fault.ParseFault.{ParseFault}
use Rattle.cedar_parser_tokens.specs.declared.parse_fault.ParseFault.TheVariants as f
use Rattle.cedar_parser_tokens.specs.Contract.{Reads, Refuses}
use Rattle.cedar_parser_tokens.specs.Reading.{TooDeep}
use Rattle.cedar_parser_tokens.proofs.Outcomes.{Meets}
use Rattle.cedar_parser_tree.specs.StatementTree.{StatementTree}
use Rattle.cedar_parser_statements.specs.Statements.{Statement}
use Rattle.cedar_parser_statements.specs.StatementText.{IsStatement, HasStatement, HasStatementFault}
use Rattle.cedar_parser_statements.specs.StatementReading as r
use Rattle.cedar_parser_expressions.proofs.Moves.{IsOver, over_deep}
use Rattle.cedar_parser_statements.proofs.StatementsSound.{statement_is, statement_reads}
use Rattle.cedar_parser_statements.proofs.StatementsComplete.{statement_same, statement_none, statement_too_deep}

pub found_by : (ts us : Marks) (x : Result StatementTree ParseFault) → Reads (r.statement 101 ts) x us → IfOk x (λ s. IsStatement ts s us)
found_by ts us (Ok s) h = statement_is 101 ts us s h
found_by ts us (Err x) h = tt

refused_by : (ts us vs : Marks) (s : StatementTree) (x : ParseFault) → Refuses (r.statement 101 ts) x → Statement 101 ts s vs → HasStatement s vs (Err x) us
refused_by ts us vs s f.OutOfMemory h i = tt
refused_by ts us vs s (f.Syntax at) h i = statement_none 101 101 ts s vs i h
refused_by ts us vs s (f.TooDeep at) h i = statement_too_deep 101 ts s vs i h
refused_by ts us vs s _ h i = h

pub only_by : (ts us : Marks) (x : Result StatementTree ParseFault) → Reads (r.statement 101 ts) x us → (s : StatementTree) (vs : Marks) → IsStatement ts s vs → HasStatement s vs x us
only_by ts us (Ok found) h s vs i = statement_same 101 101 ts s found vs us i h
only_by ts us (Err x) h s vs i = refused_by ts us vs s x h i

deep_by : (ts : Marks) → r.statement 101 ts ≡ Err TooDeep → IsOver 101 ts
deep_by ts e = subst (Meets (λ s us. Statement 101 ts s us) (IsOver 101 ts)) e (statement_reads 101 ts)

fault_there : (ts : Marks) (x : ParseFault) → Refuses (r.statement 101 ts) x → HasStatementFault ts x
fault_there ts f.OutOfMemory h = tt
fault_there ts (f.Syntax at) h = λ d s us i. statement_none d 101 ts s us i h
fault_there ts (f.TooDeep at) h = over_deep 100 ts (deep_by ts h)
fault_there ts _ h = absurd h

pub fault_by : (ts us : Marks) (x : Result StatementTree ParseFault) → Reads (r.statement 101 ts) x us → IfErr x (HasStatementFault ts)
fault_by ts us (Ok s) h = tt
fault_by ts us (Err x) h = fault_there ts x h
