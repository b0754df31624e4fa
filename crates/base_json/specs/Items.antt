-- The items of a list that are to come.
use Rattle.std.specs.Prelude.{List, [], ◌∷◌, length, Option, Some, None, option_and_then}
use Rattle.json.specs.Token.{Token}
use Rattle.json.specs.Json.{items, value}
use Rattle.serde_json.specs.Data.{Items}
use Rattle.serde_json.specs.Read.{of_items, converted}

-- The value that was read, where no token follows: a text is one value (RFC 8259, section 2).
abbrev pub if_at_end : {A : Type 0} → A → List Token → Option A
if_at_end a [] = Some a
if_at_end a (t ∷ ts) = None

-- The items that the tokens write up to the bracket that closes their list and the end of the text, where they write such
-- items. The list itself is one of a text's 127 levels, so its items have 126 (RFC 8259, sections 2 and 5; as serde_json states
-- it).
unfoldable pub to_come : List Token → Option Items
to_come ts = option_and_then (λ p. if_at_end p.0 p.1) (converted of_items (items (value 126) (length ts) ts))
