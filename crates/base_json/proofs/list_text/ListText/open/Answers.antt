use Rattle.std.proofs.Common.{◌≡◌, drop, string_bytes, sym, ap, ◌∙◌}
use Rattle.std.specs.Str.{IsUtf8}
use Rattle.std.proofs.Common.{subst}
use Rattle.std.proofs.lemmas.Str.{is_utf8-from_IsUtf8}
use Rattle.json.specs.Lex.{tokens}
use Rattle.serde_json.specs.Data.{array}
use Rattle.serde_json.specs.Read.{read}
use Rattle.std.specs.Prelude.{option_map}
use Rattle.base_json.specs.Items.{to_come}
use Rattle.base_json.specs.Private.Trees.{tree_of_tokens}
use Rattle.base_json.proofs.Coming.{list_opened}
use Rattle.base_json.proofs.list_text.ListText.open.Goals as goal

pub returns-in-Some : goal.returns-in-Some
returns-in-Some c =
    let bytes = c.args.bytes.items in
    let text = string_bytes c.in-Ok.text in
    let at = c.in-Some.offset in
    let vec = c.in-Ok.ensures.ok in
    let same : text ≡ bytes = ap (λ v. v.items) vec in
    let read_text = c.as_str.ensures.value in
    let utf8 = is_utf8-from_IsUtf8 bytes (subst IsUtf8 (read_text ∙ same) c.as_str.utf8) in
    let opened = c.in-Some.ensures.tokens in
    let tree : read bytes ≡ option_map array (to_come (tokens (drop at text))) =
    ap read (sym same ∙ sym read_text) ∙ ap tree_of_tokens opened ∙ list_opened (tokens (drop at c.as_str.result.now)) ∙ ap (λ xs. option_map array (to_come (tokens (drop at xs)))) read_text in
    rw utf8 tree
