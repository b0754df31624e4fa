use Rattle.std.proofs.Common.{◌≡◌, ◌==◌, drop, slice_index, true, false, ap, ◌∙◌, arith}
use Rattle.std.proofs.lemmas.List.{take_rest}
use Rattle.fast_float.specs.Text.{scan}
use Rattle.serde_json.specs.Read.{number_of, number_from}
use Rattle.base_json.proofs.number.number_of.Goals as goal

pub returns-then-has_minus : goal.returns-then-has_minus
unfolding number_of
returns-then-has_minus c =
    let text = c.args.text.now in
    let same : c.as_bytes-bytes.result.now ≡ text = grind arith in
    let minus : (slice_index text 0 == 45) ≡ true = grind arith in
    let rest = take_rest c.as_bytes-bytes.result.now 1 ∙ ap (drop 1) same in
    rw minus (c.negative.ensures ∙ ap (number_from true) (c.scan.ensures.parts ∙ ap scan rest))

pub returns-else-has_minus : goal.returns-else-has_minus
unfolding number_of
returns-else-has_minus c =
    let text = c.args.text.now in
    let same : c.as_bytes-bytes.result.now ≡ text = grind arith in
    let none : (slice_index text 0 == 45) ≡ false = grind arith in
    rw none (c.unsigned.ensures ∙ ap (number_from false) (c.scan-else-has_minus.ensures.parts ∙ ap scan same))
