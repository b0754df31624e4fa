use Rattle.std.proofs.lemmas.Bool.{false_from_ne_true}
use Rattle.std.proofs.lemmas.Str.{IsUtf8-from_is_utf8, is_utf8-from_IsUtf8}
use Rattle.base_json.proofs.reader.JsonReader.members.Goals as goal

pub returns-in_default : goal.returns-in_default
returns-in_default c =
    let bytes = c.args.bytes.now in
    rw (false_from_ne_true _ (λ e. c.in_default.ensures.cases.0 (IsUtf8-from_is_utf8 bytes e)))

pub returns : goal.returns
returns c =
    let bytes = c.args.bytes.now in
    rw (is_utf8-from_IsUtf8 bytes c.in-Ok.ensures.cases.1, ← c.in-Ok.ensures.cases.0) c.open.ensures
