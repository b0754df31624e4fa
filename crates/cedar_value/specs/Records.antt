-- Records as lists of pairs that ascend by their keys (Cedar language reference, records).
use Rattle.std.specs.Prelude.{◌≢◌, ℕ, List, [], ◌∷◌, map, Option, Some, None, Contains, AllPairs, ◌↔◌, if◌then◌else◌}
use Rattle.std.specs.Str.{bytes_eq}
use Rattle.cedar_value.specs.Datum.{Datum}
use Rattle.cedar_value.specs.Order.{pair_cmp}
use Rattle.cedar_value.specs.Ascending.{ascending_from}

-- The value at a key; `value_at_tells_pairs` ties it to the pairs (Cedar language reference, records).
abbrev pub value_at : List ℕ → List (List ℕ × Datum) → Option Datum
value_at k [] = None
value_at k (p ∷ ps) = if bytes_eq p.0 k then Some p.1 else value_at k ps

-- No key is repeated (Cedar language reference, records).
abbrev pub AreKeysDistinct : List (List ℕ × Datum) → Type 0
AreKeysDistinct ps = AllPairs (λ k l. k ≢ l) (map (λ p. p.0) ps)

-- The two lists have the same pairs (Cedar language reference, records).
abbrev pub SamePairs : List (List ℕ × Datum) → List (List ℕ × Datum) → Type 0
SamePairs ps qs = (p : List ℕ × Datum) → Contains ps p ↔ Contains qs p

-- The record of pairs whose keys are distinct: the list that has them and ascends by the keys;
-- `record_from_has_the_pairs`
-- says so (Cedar language reference, records).
abbrev pub record_from : List (List ℕ × Datum) → List (List ℕ × Datum)
record_from = ascending_from pair_cmp
