-- The elements of a list in ascending order, each once.
use Rattle.std.specs.Prelude.{List, [], ◌∷◌}
use Rattle.std.specs.declared.cmp.Ordering.{Ordering}
use Rattle.std.specs.Ordering.{match_ordering}

-- An ascending list with the element in its place, unless it is there (this project).
abbrev pub insert_in : {A : Type 0} → (A → A → Ordering) → A → List A → List A
insert_in R x [] = x ∷ []
insert_in R x (y ∷ ys) = match_ordering (R x y) (x ∷ y ∷ ys) (y ∷ ys) (y ∷ insert_in R x ys)

-- The list that ascends and has the elements of a list, each once: they are inserted one by one (this project).
abbrev pub ascending_from : {A : Type 0} → (A → A → Ordering) → List A → List A
ascending_from R [] = []
ascending_from R (x ∷ xs) = insert_in R x (ascending_from R xs)
