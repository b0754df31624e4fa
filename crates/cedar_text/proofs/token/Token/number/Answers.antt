use Rattle.std.proofs.Common.{◌≡◌, sym, ap, ◌∙◌, ◌+◌, min, true, List, ℕ}
use Rattle.std.proofs.lemmas.Bool.{cond-true}
use Rattle.cedar_text.specs.Bytes.{is_digit, first}
use Rattle.cedar_text.specs.Numbers.{decimal_from, max_number}
use Rattle.cedar_text.specs.Private.Lexing.{capped_decimal_from}
use Rattle.cedar_text.proofs.Digits.{capped_min}
use Rattle.cedar_text.proofs.token.Token.number.Goals as goal

pub returns-then-is_digit : goal.returns-then-is_digit
returns-then-is_digit c =
    let text = c.args.self.now.text.now in
    let same = c.as_bytes-bytes.ensures.value in
    let digit : is_digit (first text) ≡ true =
    ap (λ (bs : List ℕ). is_digit (first bs)) (sym same) ∙ ap is_digit (sym c.byte_at.ensures) ∙ sym c.is_digit.ensures ∙ c.if-is_digit.true in
    c.decimal_value.ensures ∙ ap (λ (bs : List ℕ). capped_decimal_from 0 bs) same ∙ capped_min text ∙ sym (cond-true (is_digit (first text)) (min (decimal_from 0 text) (max_number + 1)) 0 digit)
