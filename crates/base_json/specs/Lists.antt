-- Texts that are lists, of which the first items were passed.
use Rattle.std.specs.Prelude.{◌≡◌, ◌<◌, ℕ, List, length, drop, Option, Some, option_map}
use Rattle.std.specs.Str.{IsCharBoundary}
use Rattle.json.specs.Lex.{tokens}
use Rattle.serde_json.specs.Data.{Data, Items, item}
use Rattle.base_json.specs.Items.{to_come}
use Rattle.base_json.specs.LentItems.{item_of}

-- The items of a list that the bytes go on with, up to the bracket that closes it and the end of the text (RFC 8259, section 5).
abbrev pub left_in : List ℕ → Option Items
left_in bytes = to_come (tokens bytes)

-- It is the first item of the list that the bytes go on with, and the others come after `passed` bytes. These end between two
-- characters, and fewer tokens are after them (RFC 8259, section 5).
pub record IsNext (first : Data) (passed : ℕ) (bytes : List ℕ) : Type 0 where
  pub items : left_in bytes ≡ option_map (item first) (left_in (drop passed bytes))
  pub shorter : length (tokens (drop passed bytes)) < length (tokens bytes)
  pub boundary : IsCharBoundary bytes passed

-- Where the text is an item, it is the first of the list that the bytes go on with, and the others come after `passed` bytes. These
-- end between two characters, and fewer tokens are after them (RFC 8259, section 5).
pub record ComesNext (text : List ℕ) (passed : ℕ) (bytes : List ℕ) : Type 0 where
  pub items : (d : Data) → item_of text ≡ Some d → left_in bytes ≡ option_map (item d) (left_in (drop passed bytes))
  pub shorter : (d : Data) → item_of text ≡ Some d → length (tokens (drop passed bytes)) < length (tokens bytes)
  pub boundary : IsCharBoundary bytes passed
