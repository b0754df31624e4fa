-- What chains of links lead to (mathematics: the transitive closure of a relation).
use Rattle.std.specs.Prelude.{◌≡◌, ◌↔◌, ℕ, zero, suc, Bool, false, ◌||◌, IsTrue, List, Contains}
use Rattle.std.specs.Bool.{Decides}
use Rattle.std.specs.List.{list_any}

-- One or more links lead from the one to the other, where each element has a list of those that it links to
-- (mathematics: transitive closure).
pub data LeadsTo {A : Type 0} (links : A → List A) : A → A → Type 0 where
  one_link : {u v : A} → Contains (links u) v → LeadsTo links u v
  more_links : {u p v : A} → Contains (links u) p → LeadsTo links p v → LeadsTo links u v

-- The test is true of all that links lead to from an element, and of nothing else (mathematics: transitive closure).
abbrev pub IsClosure : {A : Type 0} → (A → List A) → A → (A → Bool) → Type 0
IsClosure {A} links u test = (v : A) → IsTrue (test v) ↔ LeadsTo links u v

-- Each element that has links is listed, so there are no more of them than the list is long (own).
abbrev pub AreListed : {A : Type 0} → (A → List A) → List A → Type 0
AreListed {A} links sources = (u v : A) → Contains (links u) v → Contains sources u

-- Whether one or more links, and at most so many, lead from the one to the other: a test that can be computed (own).
unfoldable pub leads : {A : Type 0} → (A → A → Bool) → (A → List A) → ℕ → A → A → Bool
leads same links zero u v = false
leads same links (suc n) u v = list_any (λ p. same p v || leads same links n p v) (links u)

-- The test of two elements is true exactly where they are equal (own).
abbrev pub TellsEqual : {A : Type 0} → (A → A → Bool) → Type 0
TellsEqual {A} same = (u v : A) → Decides (same u v) (u ≡ v)
