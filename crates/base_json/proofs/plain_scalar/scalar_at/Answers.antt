use Rattle.std.proofs.Common.{◌∷◌, ◌+◌, true, false, length, subst, sym, ap, ◌∙◌}
use Rattle.json.specs.Lex.{between, lex, token}
use Rattle.json.specs.Token.{boolean}
use Rattle.base_json.proofs.PlainValues.{boolean_read, number_read, string_read, view_number, view_truth}
use Rattle.base_json.proofs.PlainWords.{false_written, true_written}
use Rattle.base_json.specs.Private.Plain.{ReadsValue}
use Rattle.serde_json.specs.View.{number_view}
use Rattle.base_json.proofs.plain_scalar.scalar_at.Goals as goal

pub returns-in_ok-string-in-34 : goal.returns-in_ok-string-in-34
returns-in_ok-string-in-34 c = string_read c.args.text.now c.args.at c.in_ok-string-in-34.end c.in_ok-string-in-34.string.now c.in_ok-string-in-34.ensures

pub returns-in_ok-end-in-116 : goal.returns-in_ok-end-in-116
returns-in_ok-end-in-116 c =
    let w = c.in_ok-end-in-116.ensures in
    subst (λ d. ReadsValue 0 c.args.text.now c.args.at d c.in_ok-end-in-116.end) (sym (view_truth true)) (boolean_read c.args.text.now c.args.at c.in_ok-end-in-116.end true (ap (lex between) w.1 ∙ true_written w.0 w.2 ∙ ap (λ xs. token (boolean true) ∷ lex between xs) (sym w.3)))

pub returns-in_ok-end-in-102 : goal.returns-in_ok-end-in-102
returns-in_ok-end-in-102 c =
    let w = c.in_ok-end-in-102.ensures in
    subst (λ d. ReadsValue 0 c.args.text.now c.args.at d c.in_ok-end-in-102.end) (sym (view_truth false)) (boolean_read c.args.text.now c.args.at c.in_ok-end-in-102.end false (ap (lex between) w.1 ∙ false_written w.0 w.2 ∙ ap (λ xs. token (boolean false) ∷ lex between xs) (sym w.3)))

pub returns-in_ok-integer-in_default : goal.returns-in_ok-integer-in_default
returns-in_ok-integer-in_default c =
    let i = c.in_ok-integer-in_default.integer in
    let e = c.in_ok-integer-in_default.ensures in
    let end = c.args.at + length i.written.now in
    subst (λ d. ReadsValue 0 c.args.text.now c.args.at d end) (sym (view_number i.number)) (number_read c.args.text.now c.args.at end i.written.now (number_view i.number) e.written e.number)
