use Rattle.std.proofs.Common.{◌≡◌, [], ◌∷◌, Some, option_and_then, ap, ◌∙◌, arith}
use Rattle.json.specs.Json.{parse_map, value}
use Rattle.json.specs.Lex.{tokens}
use Rattle.json.specs.Reads.{token_of}
use Rattle.json.specs.Token.{Token}
use Rattle.serde_json.specs.Data.{object}
use Rattle.serde_json.specs.Read.{of_json, converted}
use Rattle.base_json.specs.Items.{if_at_end}
use Rattle.base_json.specs.LentItems.{item_view}
use Rattle.base_json.proofs.Reading.{object_inside}
use Rattle.base_json.proofs.single_item.read_lent_item.Goals as goal

pub returns-else-is_some : goal.returns-else-is_some
returns-else-is_some c =
    let rest = c.next.new.self in
    let first : tokens c.args.text.now ≡ token_of c.in-Some.token ∷ rest = grind arith in
    let is : tokens c.args.text.now ≡ Token.begin_object ∷ rest = first ∙ ap (λ k. token_of k ∷ rest) c.in-BeginObject.is in
    let read = ap (λ ts. converted of_json (value 126 ts)) is ∙ object_inside 126 rest (omega arith) ∙ ap (parse_map object) c.in-Ok.ensures.ok in
    let ended : c.read_item_members.new.reader ≡ [] = grind arith in
    ap (option_and_then (λ p. if_at_end p.0 p.1)) (read ∙ ap (λ ts. Some (item_view c.in-Ok.item, ts)) ended)
