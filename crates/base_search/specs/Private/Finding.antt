-- What is known where rows are found one after another.
use Rattle.std.specs.Prelude.{◌≡◌, ℕ, Bool, false, true, List, [], Option, get_or, length}
use Rattle.base_search.specs.Links.{IsRowOver, next}
use Rattle.base_search.specs.declared.found.Found.{Found}

-- each row that is known is that of the list at its place
abbrev pub AreFound : List (List ℕ) → List (Option ℕ) → List (List ℕ) → List Bool → Type 0
AreFound lists places rows known = (i : ℕ) → get_or known i false ≡ true → IsRowOver (next lists places) (get_or lists i []) (get_or rows i [])

-- each row that is known is right, and each list has a row
pub record IsFinding (lists : List (List ℕ)) (places : List (Option ℕ)) (found : Found) : Type 0 where
  pub are_found : AreFound lists places found.rows.items found.known.items
  pub rows_long : length found.rows.items ≡ length lists
  pub known_long : length found.known.items ≡ length lists

-- what was known stays known
abbrev pub KeepsKnown : List Bool → List Bool → Type 0
KeepsKnown old new = (i : ℕ) → get_or old i false ≡ true → get_or new i false ≡ true
