use Rattle.std.proofs.Common.{rules, arith, ◌≡◌, ◌≤◌, length, ◌+◌, true, false, eqb, get_or, drop, Some, None, length-drop}
use Rattle.std.proofs.lemmas.List.{take_rest}
use Rattle.std.proofs.lemmas.Grind.{common_steps}
use Rattle.cedar_text.specs.Private.Lexing.{escape_len, no_escape}
use Rattle.cedar_text.specs.Private.Outcomes.{Refuses}
use Rattle.cedar_text.proofs.Passing.{close_turn, plain_turn, escape_turn, refuse_turn, end_turn}
use Rattle.cedar_text.proofs.escape.string_len.Goals as goal

pub returns-then-b-eq34-clause-value : goal.returns-then-b-eq34-clause-value
returns-then-b-eq34-clause-value c =
    let quote : eqb (get_or c.args.bytes.now c.loop-i.i 0) 34 ≡ true = first_of (search rules, grind (arith, common_steps)) in
    close_turn c.args.bytes.now c.loop-i.i _ c.loop-i-test.true quote c.loop-i.invariant.0

pub returns-in_default-clause-value : goal.returns-in_default-clause-value
returns-in_default-clause-value c =
    let quote : eqb (get_or c.args.bytes.now c.loop-i.i 0) 34 ≡ false = first_of (search rules, grind (arith, common_steps)) in
    let backslash : eqb (get_or c.args.bytes.now c.loop-i.i 0) 92 ≡ true = first_of (search rules, grind (arith, common_steps)) in
    let none : escape_len (drop (c.loop-i.i + 1) c.args.bytes.now) ≡ None = first_of (search rules, grind (arith, common_steps)) in
    let wrong : Refuses (no_escape (drop (c.loop-i.i + 1) c.args.bytes.now)) c.no_escape.result = rw take_rest at c.no_escape.ensures in
    refuse_turn c.args.bytes.now c.loop-i.i _ c.no_escape.result c.loop-i-test.true quote backslash none wrong c.loop-i.invariant.0

pub loop-i-preserved-then-b-eq92 : goal.loop-i-preserved-then-b-eq92
loop-i-preserved-then-b-eq92 c =
    let quote : eqb (get_or c.args.bytes.now c.loop-i.i 0) 34 ≡ false = first_of (search rules, grind (arith, common_steps)) in
    let backslash : eqb (get_or c.args.bytes.now c.loop-i.i 0) 92 ≡ true = first_of (search rules, grind (arith, common_steps)) in
    let some : escape_len (drop (c.loop-i.i + 1) c.args.bytes.now) ≡ Some c.in-Some.len = first_of (search rules, grind (arith, common_steps)) in
    let le : c.in-Some.len ≤ length (drop (c.loop-i.i + 1) c.args.bytes.now) = rw take_rest at c.in-Some.ensures.within in (
      escape_turn c.args.bytes.now c.loop-i.i c.in-Some.len _ c.loop-i-test.true quote backslash some le c.loop-i.invariant.0,
      omega (arith, length-drop (c.loop-i.i + 1) c.args.bytes.now),
    )

pub loop-i-preserved : goal.loop-i-preserved
loop-i-preserved c =
    let quote : eqb (get_or c.args.bytes.now c.loop-i.i 0) 34 ≡ false = first_of (search rules, grind (arith, common_steps)) in
    let backslash : eqb (get_or c.args.bytes.now c.loop-i.i 0) 92 ≡ false = first_of (search rules, grind (arith, common_steps)) in
    (plain_turn c.args.bytes.now c.loop-i.i _ c.loop-i-test.true quote backslash c.loop-i.invariant.0, omega arith)

pub returns-clause-value : goal.returns-clause-value
returns-clause-value c = end_turn c.args.bytes.now c.loop-i.i _ c.loop-i-test.false c.loop-i.invariant.0
