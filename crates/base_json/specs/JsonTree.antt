-- Which JSON bytes are (RFC 8259).
use Rattle.std.specs.Prelude.{ℕ, List, Option, None, if◌then◌else◌}
use Rattle.std.specs.Str.{is_utf8}
use Rattle.serde_json.specs.Data.{Data}
use Rattle.serde_json.specs.Read.{read}

-- The JSON tree of these bytes, which have to be UTF-8 and one JSON text (RFC 8259, as serde_json states it: at most 127 deep,
-- the last value of a repeated key, no number beyond a float's range).
abbrev pub json_of : List ℕ → Option Data
json_of bytes = if is_utf8 bytes then read bytes else None
