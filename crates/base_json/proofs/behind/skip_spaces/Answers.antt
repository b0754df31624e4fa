use Rattle.std.proofs.Common.{◌≡◌, true, get_or, ◌∙◌, arith}
use Rattle.json.specs.Word.{is_space}
use Rattle.base_json.proofs.Bytes.{past_space}
use Rattle.base_json.proofs.behind.skip_spaces.Goals as goal

pub loop-at-preserved : goal.loop-at-preserved
loop-at-preserved c =
    let space : is_space (get_or c.args.bytes.now c.loop-at.at 0) ≡ true = grind arith in
    c.loop-at.invariant ∙ past_space c.args.bytes.now c.loop-at.at c.loop-at-test.true space
