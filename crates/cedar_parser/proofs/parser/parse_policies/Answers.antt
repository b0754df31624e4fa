use Rattle.std.proofs.Common.{arith}
use Rattle.std.proofs.lemmas.Result.{err_from_is_err_and}
use Rattle.cedar_parser_expressions.proofs.Moves.{shorter}
use Rattle.cedar_parser_statements.proofs.StatementMoves.{statement_moves}
use Rattle.cedar_parser_statements.proofs.StatementsSound.{statement_is}
use Rattle.cedar_parser.proofs.TextLemmas.{read_none, read_more, read_all}
use Rattle.cedar_parser.proofs.Refusals.{read_only, unread_only, unread_fault, unentered_only, unentered_fault}
use Rattle.cedar_parser.proofs.parser.parse_policies.Goals as goal

pub loop-position-init : goal.loop-position-init
loop-position-init c = record { read = read_none c.args.language c.args.tokens.now c.new-set.result c.new-set.ensures; left = omega (arith, c.left-position-end.ensures) }

pub loop-position-preserved : goal.loop-position-preserved
loop-position-preserved c =
    let is = statement_is 101 c.loop-position.tokens c.parse_statement.new.tokens c.in_ok-statement.statement c.in_ok-statement.ensures.reads in
    let less = shorter (statement_moves 101 _ _ _ is) in
    record {
      read = read_more c.args.language c.args.tokens.now c.loop-position.tokens c.parse_statement.new.tokens c.loop-position.position c.loop-position.set c.add_statement.new.set c.in_ok-statement.statement
          c.loop-position.invariant.read (omega (arith, c.left.ensures, c.if-left-eq0.false)) c.in_ok-statement.ensures.reads c.in_ok-add_statement.ensures.limits c.in_ok-add_statement.ensures.distinct c.in_ok-add_statement.ensures.entered;
      left = omega (arith, less, c.loop-position.invariant.left);
    }

pub returns-then-left-eq0-clause-found : goal.returns-then-left-eq0-clause-found
returns-then-left-eq0-clause-found c =
    read_all c.args.language c.args.tokens.now c.loop-position.tokens c.loop-position.position c.loop-position.set c.loop-position.invariant.read (omega (arith, c.left.ensures, c.if-left-eq0.true))

pub returns-then-left-eq0-clause-only : goal.returns-then-left-eq0-clause-only
returns-then-left-eq0-clause-only c =
    read_only c.args.language c.args.tokens.now c.loop-position.tokens c.loop-position.position c.loop-position.set c.loop-position.invariant.read (omega (arith, c.left.ensures, c.if-left-eq0.true))

pub returns-clause-found : goal.returns-clause-found
returns-clause-found c =
    read_all c.args.language c.args.tokens.now c.loop-position.tokens c.loop-position.position c.loop-position.set c.loop-position.invariant.read
    (omega (arith, c.loop-position.invariant.left, c.loop-position-test.false))

pub returns-clause-only : goal.returns-clause-only
returns-clause-only c =
    read_only c.args.language c.args.tokens.now c.loop-position.tokens c.loop-position.position c.loop-position.set c.loop-position.invariant.read
    (omega (arith, c.loop-position.invariant.left, c.loop-position-test.false))

pub returns-in_err-statement-clause-only : goal.returns-in_err-statement-clause-only
returns-in_err-statement-clause-only c =
    let p = err_from_is_err_and c.from_residual.result c.from_residual.ensures.1 in
    rw (p.1, p.2)
    (unread_only c.args.language c.args.tokens.now c.loop-position.tokens c.loop-position.position c.loop-position.set c.loop-position.invariant.read (omega (arith, c.left.ensures, c.if-left-eq0.false)) c.in_err-statement.field-0.0 c.in_err-statement.ensures.reads)

pub returns-in_err-statement-clause-fault : goal.returns-in_err-statement-clause-fault
returns-in_err-statement-clause-fault c =
    let p = err_from_is_err_and c.from_residual.result c.from_residual.ensures.1 in
    rw (p.1, p.2)
    (unread_fault c.args.language c.args.tokens.now c.loop-position.tokens c.loop-position.position c.loop-position.set c.loop-position.invariant.read (omega (arith, c.left.ensures, c.if-left-eq0.false)) c.in_err-statement.field-0.0 c.in_err-statement.ensures.reads)

pub returns-in_err-add_statement-clause-only : goal.returns-in_err-add_statement-clause-only
returns-in_err-add_statement-clause-only c =
    let p = err_from_is_err_and c.from_residual-in_err-add_statement.result c.from_residual-in_err-add_statement.ensures.1 in
    rw (p.1, p.2)
    (unentered_only c.args.language c.args.tokens.now c.loop-position.tokens c.parse_statement.new.tokens c.loop-position.position c.loop-position.set c.in_ok-statement.statement c.loop-position.invariant.read
    (record { some = omega (arith, c.left.ensures, c.if-left-eq0.false); read = c.in_ok-statement.ensures.reads }) c.in_err-add_statement.field-0.0 c.in_err-add_statement.ensures.refused)

pub returns-in_err-add_statement-clause-fault : goal.returns-in_err-add_statement-clause-fault
returns-in_err-add_statement-clause-fault c =
    let p = err_from_is_err_and c.from_residual-in_err-add_statement.result c.from_residual-in_err-add_statement.ensures.1 in
    rw (p.1, p.2)
    (unentered_fault c.args.language c.args.tokens.now c.loop-position.tokens c.parse_statement.new.tokens c.loop-position.position c.loop-position.set c.in_ok-statement.statement c.loop-position.invariant.read
    (record { some = omega (arith, c.left.ensures, c.if-left-eq0.false); read = c.in_ok-statement.ensures.reads }) c.in_err-add_statement.field-0.0 c.in_err-add_statement.ensures.refused)
