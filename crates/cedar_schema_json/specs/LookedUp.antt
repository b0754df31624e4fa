-- The value at a key of a JSON object is looked up by the key.
use Rattle.std.specs.Prelude.{◌≡◌, ℕ, List, option_map}
use Rattle.serde_json.specs.Data.{Members}
use Rattle.serde_json.specs.Find.{get_member}
use Rattle.cedar_schema_json.specs.declared.form.position.Position.TheVariants.{Inner}
use Rattle.cedar_schema_json.specs.Reading.{Scope, type_read, read_at, rows_read, rows_at}

-- What an object has at a key, read as a type, is what the member that the key finds writes as a type (own).
abbrev pub TypesAreLookedUp : Type 0
TypesAreLookedUp = (sc : Scope) (k : List ℕ) (ms : Members) → read_at sc k ms ≡ option_map (type_read sc Inner) (get_member k ms)

-- What an object has at a key, read as attributes, is what the member that the key finds writes as attributes (own).
abbrev pub AttributesAreLookedUp : Type 0
AttributesAreLookedUp = (sc : Scope) (k : List ℕ) (ms : Members) → rows_at sc k ms ≡ option_map (rows_read sc) (get_member k ms)
