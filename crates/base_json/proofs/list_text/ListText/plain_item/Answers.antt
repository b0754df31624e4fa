use Rattle.std.proofs.Common.{◌≡◌, ℕ, Option, Some, IfSome, drop, subst, ap, ◌∙◌, arith, rules}
use Rattle.json.specs.Json.{value}
use Rattle.json.specs.Lex.{tokens}
use Rattle.serde_json.specs.Read.{of_json, converted}
use Rattle.base_json.proofs.Coming.{item_to_come}
use Rattle.base_json.proofs.PlainValues.{goes_on, read_shorter}
use Rattle.base_json.specs.LentItems.{item_view}
use Rattle.base_json.specs.Private.Plain.{ReadsNested, tokens_after}
use Rattle.base_json.specs.declared.lent_item.LentItem.{LentItem}
use Rattle.base_json.proofs.list_text.ListText.plain_item.Goals as goal

pub returns-in-Some-left_behind : goal.returns-in-Some-left_behind
returns-in-Some-left_behind c =
    let text = c.left-text.result.now in
    let bytes : c.as_bytes.result.now ≡ text = grind arith in
    let end = c.in-Some.end in
    let d = item_view c.in-Some.item in
    let ts = tokens c.args.self.now in
    let rest = tokens (drop c.in-Some-left_behind.passed c.args.self.now) in
    let found : ReadsNested 3 text 0 d end = subst (λ (o : Option (LentItem × ℕ)). IfSome o (λ f. ReadsNested 3 text 0 (item_view f.0) f.1)) c.in-Some.is c.in_ok-item.ensures in
    let after : tokens_after text end ≡ tokens (drop c.in-Some-left_behind.passed text) = rw (← bytes) c.in-Some-left_behind.ensures.tokens in
    let read : converted of_json (value 126 ts) ≡ Some (d, rest) = rw (← c.left-text.ensures) (found 126 (omega arith) ∙ ap (λ xs. Some (d, xs)) after) in
    record {
      items = item_to_come ts rest d (goes_on 126 ts d rest read) read (read_shorter 126 ts rest d read);
      shorter = read_shorter 126 ts rest d read;
      boundary = search rules;
    }
