use Rattle.std.proofs.Common.{sym, ◌∙◌}
use Rattle.std.proofs.lemmas.Str.{IsUtf8-from_is_utf8, is_utf8-from_IsUtf8}
use Rattle.std.proofs.lemmas.Bool.{false_from_ne_true}
use Rattle.cedar_files.proofs.SchemaFiles.{not_in_utf8, in_json, in_text, there}
use Rattle.cedar_files.proofs.reading_schema.text_in_cedar4.Goals as goal

pub returns-in_default : goal.returns-in_default
returns-in_default c = not_in_utf8 c.args.bytes.now (false_from_ne_true _ (λ e. c.in_default.ensures.cases.0 (IsUtf8-from_is_utf8 c.args.bytes.now e)))

pub returns-then-is_json : goal.returns-then-is_json
returns-then-is_json c =
    in_json c.args.bytes.now (is_utf8-from_IsUtf8 c.args.bytes.now c.in-Ok.ensures.cases.1) (sym c.begins_with_brace.ensures ∙ c.if-begins_with_brace.false)
    (there _ c.in_ok-json.json _ _ _ c.in_ok-json.ensures c.is_some-is_json.ensures c.if-is_json.true)

pub returns-else-is_json : goal.returns-else-is_json
returns-else-is_json c = (
  in_text c.args.bytes.now (is_utf8-from_IsUtf8 c.args.bytes.now c.in-Ok.ensures.cases.1) (sym c.begins_with_brace.ensures ∙ c.if-begins_with_brace.false)
      (there _ c.in_ok-json.json _ _ _ c.in_ok-json.ensures c.is_some-is_json.ensures c.if-is_json.false),
  c.in-Ok.ensures.cases.0,
)
