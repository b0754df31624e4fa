use Rattle.std.proofs.Common.{◌≡◌, ◌≤◌, ℕ, List, length, drop}
use Rattle.std.specs.BTreeMap.{get}
use Rattle.cedar_value.specs.Order.{text_cmp}
use Rattle.cedar_schema_json.specs.Naming.{place_from}
use Rattle.cedar_schema_json.proofs.json.name_table.places_of.Given as goal

-- of the names from here on the map has the first places
abbrev pub invariant-back : goal.invariant-back
invariant-back l = record {
  placed : (k : List ℕ) → get text_cmp l.places k ≡ place_from l.left k (drop l.left l.names);
  within : l.left ≤ length l.names;
}

abbrev pub decreases-back : goal.decreases-back
decreases-back l = l.left
