use Rattle.std.proofs.Common.{◌≡◌, ◌∙◌, sym, ap, ◌+◌, ◌≤◌, drop, length, arith}
use Rattle.cedar_text.specs.Lexeme.{lexemes}
use Rattle.cedar_text.specs.Private.NormalWalk.{all_normal}
use Rattle.cedar_text.proofs.NormalSteps.{from_place, next_left, none_left}
use Rattle.cedar_text.proofs.normal.normal_tokens.Goals as goal

pub loop-at-preserved : goal.loop-at-preserved
loop-at-preserved c =
    c.in_ok-pass.ensures (lexemes (drop (c.loop-at.at + 1) c.args.tokens.now)) (rw (sym (from_place c.args.tokens.now (c.loop-at.at + 1))) (sym c.first_kind.ensures))
    ∙ sym (ap (all_normal c.loop-at.walk) (next_left c.args.tokens.now c.loop-at.at _ (omega arith))) ∙ c.loop-at.invariant

pub returns : goal.returns
returns c =
    let end : length c.args.tokens.now ≤ c.loop-at.at = omega arith in
    none_left c.loop-at.walk c.args.tokens.now c.loop-at.at end ∙ c.loop-at.invariant
