use Rattle.std.proofs.Common.{◌≡◌, true, sym, ◌∙◌, arith}
use Rattle.json.specs.Word.{ends_word}
use Rattle.base_json.proofs.PlainWords.{word_past}
use Rattle.base_json.proofs.plain_scalar.word_at.Goals as goal

pub returns : goal.returns
returns c =
    let rest = c.in_ok-rest.rest.now in
    let parts = sym c.in_ok-left.ensures.back ∙ c.in_ok-rest.ensures in
    let ends : ends_word rest ≡ true = grind arith in
    (rest, parts, ends, word_past c.args.text.now c.args.at c.args.word.now rest parts)
