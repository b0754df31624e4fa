-- How far the entries of a list have been looked at.
use Rattle.std.specs.Prelude.{◌≡◌, ◌+◌, ℕ, List, Option, Some, option_and_then, option_map}
use Rattle.serde_json.specs.Data.{Items}
use Rattle.serde_json.specs.Find.{as_array, get_item}
use Rattle.base_json.specs.JsonTree.{json_of}
use Rattle.cedar_conform_diagnostics.specs.Refused.{AreAccepted, AreAcceptedBefore, IsFirstIn}
use Rattle.cedar_schema_spec.specs.SchemaTree.{SchemaTree}

-- the items of the list that the bytes are, none where they are not a list
abbrev pub list_of : List ℕ → Option Items
list_of bytes = option_and_then as_array (json_of bytes)

-- where there is a list, all its entries are accepted
abbrev pub AllAreAccepted : SchemaTree → Option Items → Type 0
AllAreAccepted s all = (ds : Items) → all ≡ Some ds → AreAccepted s ds

-- there is a list, whose entry at a position is the first that is refused
abbrev pub IsFirstOfAll : SchemaTree → Option Items → ℕ → ℕ → Type 0
IsFirstOfAll s all position number = (ds : Items) × (all ≡ Some ds) × IsFirstIn s ds position number

-- the items that have been read come before those that are to come, there are `read` of them, and each is accepted
pub record IsPassed (s : SchemaTree) (all rest : Option Items) (read : ℕ) : Type 0 where
  pub behind_read : Items → Items
  pub is_all : all ≡ option_map behind_read rest
  pub places : (ds : Items) (k : ℕ) → get_item (k + read) (behind_read ds) ≡ get_item k ds
  pub accepted : (ds : Items) → AreAcceptedBefore s (behind_read ds) read
