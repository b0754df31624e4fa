use Rattle.std.proofs.Common.{◌≡◌, ◌-◌, ◌<◌, length, take, drop, get_or, Some, option_map, sym, ap, ◌∙◌, arith, rules}
use Rattle.json.specs.Json.{value}
use Rattle.json.specs.Lex.{between, tokens}
use Rattle.serde_json.specs.Data.{Data, item}
use Rattle.serde_json.specs.Read.{of_json, converted}
use Rattle.base_json.specs.Items.{to_come}
use Rattle.base_json.specs.LentItems.{item_of}
use Rattle.base_json.specs.Private.Modes.{mode_behind}
use Rattle.base_json.proofs.FirstItem.{behind, cut_item, read_whole}
use Rattle.base_json.proofs.object_text.first_object.Goals as goal

cut : (c : goal.After-object-2-1) (d : Data) → item_of c.in_ok-object.object.now ≡ Some d
    → (to_come (tokens c.args.text.now) ≡ option_map (item d) (to_come (tokens (drop c.in_ok-passed.passed c.args.text.now))))
    × (length (tokens (drop c.in_ok-passed.passed c.args.text.now)) < length (tokens c.args.text.now))
cut c d read =
    let text = c.args.text.now in
    let same : c.as_bytes-bytes.result.now ≡ text = grind arith in
    let end = c.in_ok-end.end in
    let left = c.in_ok-passed.passed in
    let object : c.in_ok-object.object.now ≡ take end text = grind arith in
    let within = c.in_ok-end.ensures.within in
    let brace = ap (λ xs. get_or xs (end - 1) 0) (sym same) ∙ c.in_ok-end.ensures.closes in
    let mode = ap (λ xs. mode_behind between (take end xs)) (sym same) ∙ c.in_ok-end.ensures.mode in
    let alone = ap (λ xs. converted of_json (value 126 (tokens xs))) (sym object) ∙ read_whole _ d read in
    let after = ap (λ xs. behind (drop end xs)) (sym same) ∙ c.in_ok-passed.ensures.tokens ∙ ap (λ xs. tokens (drop left xs)) same in
    cut_item text end left d within.0 (omega (arith, within.1, ap length same)) brace mode alone after

pub returns : goal.returns
returns c = record {
  items = λ d read. (cut c d read).0;
  shorter = λ d read. (cut c d read).1;
  boundary = search rules;
}
