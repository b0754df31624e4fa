-- Small JSON objects (RFC 8259).
use Rattle.std.specs.Prelude.{ℕ, ◌==◌, Bool, true, false, List, Option, option_map, option_and_then, unwrap_or, if◌then◌else◌}
use Rattle.serde_json.specs.Data.{Data, Members, no_members, member}
use Rattle.serde_json.specs.Events.{members_len}
use Rattle.serde_json.specs.Find.{get, as_str, as_object}

-- How many members an object has, and 0 for a JSON that is not an object (RFC 8259).
abbrev pub size_of : Data → ℕ
size_of d = unwrap_or (option_map members_len (as_object d)) 0

-- Each key is allowed (RFC 8259).
abbrev pub are_only : (List ℕ → Bool) → Members → Bool
are_only may no_members = true
are_only may (member k d ms) = if may k then are_only may ms else false

-- The JSON is an object, each of whose keys is allowed (RFC 8259).
abbrev pub has_only : (List ℕ → Bool) → Data → Bool
has_only may d = unwrap_or (option_map (are_only may) (as_object d)) false

-- The string at a key, none where the key is absent or has another kind of value (RFC 8259).
abbrev pub text_at : List ℕ → Data → Option (List ℕ)
text_at key d = option_and_then as_str (get key d)

-- The value at the key, where the object has that key alone; else the JSON itself (Cedar documentation, entities and context in
-- JSON: the escapes `__entity` and `__extn`).
abbrev pub inside : List ℕ → Data → Data
inside key d = if size_of d == 1 then unwrap_or (get key d) d else d
