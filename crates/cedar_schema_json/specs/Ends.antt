-- Where chains of names of common types lead.
use Rattle.std.specs.Prelude.{◌≡◌, ℕ, zero, suc, List, Some}
use Rattle.std.specs.List.{slice_get}
use Rattle.cedar_schema_json.specs.Forms.{common_form}
use Rattle.cedar_schema_json.specs.Expansion.{Table}

-- So many common types, each of which only names the next, lead from the one place to the other (own).
pub data Leads (t : Table) : ℕ → ℕ → ℕ → Type 0 where
  stays : {i : ℕ} → Leads t i zero i
  goes : {i k n j : ℕ} → slice_get t i ≡ Some (common_form k) → Leads t k n j → Leads t i (suc n) j

-- The list has, for each common type, a place that names alone lead to, and the number of these names (own).
abbrev pub AreEnds : Table → List (ℕ × ℕ) → Type 0
AreEnds t ends = (i : ℕ) (e : ℕ × ℕ) → slice_get ends i ≡ Some e → Leads t i e.1 e.0
