use Rattle.std.proofs.Common.{◌<◌, ◌≤◌, length, length-drop, rules, arith}
use Rattle.std.proofs.lemmas.Grind.{common_steps}
use Rattle.cedar_text.specs.Lexeme.{lexemes}
use Rattle.cedar_text.proofs.Turns.{at_end, no_turns, refuses, goes_on}
use Rattle.cedar_text.proofs.lexer.lex.Goals as goal

pub returns-then-is_empty : goal.returns-then-is_empty
returns-then-is_empty c =
    let none : length c.loop-turn.rest.now ≤ 0 = first_of (search rules, grind (arith, common_steps)) in
    at_end (lexemes c.loop-turn.found.items) _ c.loop-turn.at c.loop-turn.rest.now _ none c.loop-turn.invariant.1

pub returns-in_err-piece : goal.returns-in_err-piece
returns-in_err-piece c =
    let some : 0 < length c.loop-turn.rest.now = first_of (search rules, grind (arith, common_steps)) in
    let h = refuses (lexemes c.loop-turn.found.items) (length c.args.source.now) c.loop-turn._turn c.loop-turn.at c.loop-turn.rest.now c.in_err-piece.field-0.0 _ (omega arith) some c.in_err-piece.ensures.piece c.loop-turn.invariant.1 in
    first_of (search rules, grind (arith, common_steps))

pub returns : goal.returns
returns c = no_turns (lexemes c.loop-turn.found.items) (length c.args.source.now) c.loop-turn._turn c.loop-turn.at c.loop-turn.rest.now _ (omega arith) c.loop-turn.invariant.1

pub loop-turn-preserved : goal.loop-turn-preserved
loop-turn-preserved c =
    let p = c.in_ok-piece.piece in
    let some : 0 < length c.loop-turn.rest.now = first_of (search rules, grind (arith, common_steps)) in
    let le : p.len ≤ length c.loop-turn.rest.now = c.in_ok-piece.ensures.within in
    let h = goes_on (lexemes c.loop-turn.found.items) (length c.args.source.now) c.loop-turn._turn c.loop-turn.at c.loop-turn.rest.now p.kind p.len p.number _ (omega arith) some c.in_ok-piece.ensures.piece c.loop-turn.invariant.1 in (
      c.in_ok-piece.ensures.utf8,
      rw (c.in_ok-push.ensures, c.in_ok-piece.ensures.front, c.in_ok-piece.ensures.rest) h,
      (let e = c.loop-turn.invariant.2 in rw c.in_ok-piece.ensures.rest (omega (arith, length-drop p.len c.loop-turn.rest.now))),
    )
