-- The lines of an input (JSON Lines, jsonlines.org, line terminator; own: the last piece needs none).
use Rattle.std.specs.Prelude.{ℕ, ◌==◌, List, [], ◌∷◌, if◌then◌else◌}

-- LF, the byte that ends a line (JSON Lines, line terminator).
abbrev pub line_feed : ℕ
line_feed = 10

-- The byte is put in front of the first line, or is a line itself where there is none (own).
abbrev pub onto_first : ℕ → List (List ℕ) → List (List ℕ)
onto_first b [] = (b ∷ []) ∷ []
onto_first b (l ∷ ls) = (b ∷ l) ∷ ls

-- The lines of some bytes: cut at each LF, and the last piece is a line unless it is empty (JSON Lines, line terminator).
abbrev pub lines_of : List ℕ → List (List ℕ)
lines_of [] = []
lines_of (b ∷ bs) = if b == line_feed then [] ∷ lines_of bs else onto_first b (lines_of bs)

-- The byte is put in front of the first line, if there is one (own).
abbrev pub onto_ended : ℕ → List (List ℕ) → List (List ℕ)
onto_ended b [] = []
onto_ended b (l ∷ ls) = (b ∷ l) ∷ ls

-- The lines of some bytes that have their LF: a last piece without one is left out (own).
abbrev pub ended_lines_of : List ℕ → List (List ℕ)
ended_lines_of [] = []
ended_lines_of (b ∷ bs) = if b == line_feed then [] ∷ ended_lines_of bs else onto_ended b (ended_lines_of bs)
