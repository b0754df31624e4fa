-- What a map from names to their places has.
use Rattle.std.specs.Prelude.{◌≡◌, ℕ, List}
use Rattle.std.specs.BTreeMap.{BTreeMap, get}
use Rattle.cedar_value.specs.Order.{text_cmp}
use Rattle.cedar_schema_json.specs.Naming.{place_of}

-- the first place of each name
abbrev pub ArePlaces : BTreeMap (List ℕ) ℕ → List (List ℕ) → Type 0
ArePlaces places names = (k : List ℕ) → get text_cmp places k ≡ place_of names k
