use Rattle.std.proofs.Common.{◌≡◌, true, ◌+◌, ◌++◌, ◌∷◌, ℕ, List, length, take, drop, sym, ap, ap₂, ◌∙◌, arith}
use Rattle.std.proofs.lemmas.Grind.{common_steps}
use Rattle.std.proofs.lemmas.List.{take-append-drop}
use Rattle.json.specs.Lex.{between, lex, token}
use Rattle.json.specs.Token.{number}
use Rattle.json.specs.Word.{ends_word}
use Rattle.base_json.proofs.PlainWords.{integer_written}
use Rattle.base_json.specs.Private.Plain.{is_integer}
use Rattle.base_json.proofs.plain_integer.integer_at.Goals as goal

pub returns-clause-written : goal.returns-clause-written
returns-clause-written c =
    let written = c.in_ok-written.written.now in
    let rest = c.in_ok-written.rest.now in
    let left = c.in_ok-left.left.now in
    let bytes : c.as_bytes.result.now ≡ left = grind arith in
    let n = c.in_ok-integer_length.field-0 in
    let front : written ≡ take n left = grind arith in
    let parts : left ≡ written ++ rest = sym (take-append-drop n left) ∙ ap₂ (λ (a b : List ℕ). a ++ b) (sym front) (sym c.in_ok-written.ensures.back) in
    let whole = ap (λ s. is_integer s) (front ∙ ap (take n) (sym bytes)) ∙ c.in_ok-integer_length.ensures.integer in
    let ends : ends_word rest ≡ true = grind arith in
    let after : drop (c.args.at + length written) c.args.text.now ≡ rest = grind (arith, common_steps) in
    ap (lex between) (sym c.in_ok-left.ensures.back ∙ parts) ∙ integer_written written rest whole ends ∙ ap (λ xs. token (number written) ∷ lex between xs) (sym after)
