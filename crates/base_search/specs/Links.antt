-- What lists of numbers lead to, where a number links to those of a list.
use Rattle.std.specs.Prelude.{◌≡◌, ◌⊎◌, ◌↔◌, ℕ, List, [], Option, None, Some, Contains, get_or, IsTrue}
use Rattle.base_bits.specs.Bits.{has_bit}
use Rattle.base_reach.specs.Closure.{LeadsTo}

-- The list at a place, none where there is no place (own).
abbrev pub list_at : List (List ℕ) → Option ℕ → List ℕ
list_at lists None = []
list_at lists (Some place) = get_or lists place []

-- The numbers that a number links to, where numbers have the places of lists, or none (own).
abbrev pub next : List (List ℕ) → List (Option ℕ) → ℕ → List ℕ
next lists places k = list_at lists (get_or places k None)

-- The number is one of the list, or links lead to it from one of the list (own).
abbrev pub IsAhead : (ℕ → List ℕ) → List ℕ → ℕ → Type 0
IsAhead links list n = (p : ℕ) × Contains list p × ((p ≡ n) ⊎ LeadsTo links p n)

-- The row has the numbers of the list and what links lead to from them, and nothing else (own).
abbrev pub IsRowOver : (ℕ → List ℕ) → List ℕ → List ℕ → Type 0
IsRowOver links list row = (n : ℕ) → IsTrue (has_bit row n) ↔ IsAhead links list n

-- Each row is that of the list at its place (own).
abbrev pub AreClosed : List (List ℕ) → List (Option ℕ) → List (List ℕ) → Type 0
AreClosed lists places rows = (i : ℕ) → IsRowOver (next lists places) (get_or lists i []) (get_or rows i [])
