use Rattle.std.proofs.Common.{◌<◌, ◌≤◌, length, rules, arith, refl, sym, ◌∙◌}
use Rattle.std.proofs.lemmas.Grind.{common_steps}
use Rattle.cedar_schema_text.proofs.Cutting.{cut_begins, cut_done, cut_over, cut_refused, cut_turn, shorter}
use Rattle.cedar_schema_text.proofs.lexer.cut.Goals as goal

pub loop-turn-init : goal.loop-turn-init
loop-turn-init c = (c.skip-rest.utf8, cut_begins c.args.source.now c.skip-rest.result.now _ c.skip-rest.ensures.value (search rules), c.skip-rest.ensures.shorter)

pub returns-then-is_empty : goal.returns-then-is_empty
returns-then-is_empty c =
    let none : length c.loop-turn.rest.now ≤ 0 = first_of (search rules, grind (arith, common_steps)) in
    c.loop-turn.invariant.1 ∙ cut_done _ _ _ c.loop-turn.rest.now none

pub returns-in_default : goal.returns-in_default
returns-in_default c =
    let some : 0 < length c.loop-turn.rest.now = first_of (search rules, grind (arith, common_steps)) in
    c.loop-turn.invariant.1 ∙ cut_refused (length c.args.source.now) c.loop-turn._turn _ _ c.loop-turn.rest.now c.loop-turn-test.true some (sym c.in_default.ensures.value)

pub returns : goal.returns
returns c = c.loop-turn.invariant.1 ∙ cut_over (length c.args.source.now) c.loop-turn._turn _ _ c.loop-turn.rest.now c.loop-turn-test.false

pub loop-turn-preserved : goal.loop-turn-preserved
loop-turn-preserved c =
    let some : 0 < length c.loop-turn.rest.now = first_of (search rules, grind (arith, common_steps)) in (
      c.skip-rest-in-loop-turn.utf8,
      c.loop-turn.invariant.1
          ∙ cut_turn (length c.args.source.now) c.loop-turn._turn _ c.loop-turn.found.items c.push.new.self.items c.loop-turn.rest.now c.in-Some.after.now c.skip-rest-in-loop-turn.result.now _ c.loop-turn-test.true some
          (sym c.in-Some.ensures.value) refl c.in-Some.ensures.front c.in-Some.ensures.rest c.skip-rest-in-loop-turn.ensures.value c.in_ok-push.ensures.items,
      (let within = c.loop-turn.invariant.2 in let less = shorter _ c.loop-turn.rest.now c.in-Some.after.now c.in-Some.ensures.rest in let least = c.skip-rest-in-loop-turn.ensures.shorter in omega arith),
    )
