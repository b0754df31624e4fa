-- The order of values: that of their rows of numbers. A beginning of a row comes before the row.
use Rattle.std.specs.Prelude.{ℕ, ℤ, List, [], map}
use Rattle.std.specs.declared.cmp.Ordering.{Ordering}
use Rattle.std.specs.Ordering.{int_cmp, nat_cmp, on, ordering_then}
use Rattle.std.specs.List.Sorted.{IsStrictlySortedBy}
use Rattle.std.specs.Cmp.Lexicographic.{slice_cmp}
use Rattle.cedar_value.specs.Datum.{Datum}
use Rattle.cedar_value.specs.Rows.{row}
use Rattle.cedar_value.specs.declared.uid.Uid.{Uid}

-- The row of numbers by which a value is ordered (this project).
abbrev pub numbers_of : Datum → List ℤ
numbers_of d = row d []

-- The order of two values: that of their rows of numbers. A beginning of a row comes before the row (this project).
unfoldable pub datum_cmp : Datum → Datum → Ordering
datum_cmp = on numbers_of (slice_cmp int_cmp)

-- The order of two texts: byte by byte. A beginning of a text comes before the text (this project).
abbrev pub text_cmp : List ℕ → List ℕ → Ordering
text_cmp = slice_cmp nat_cmp

-- The order of two uids: first the texts of their types, and then their ids (this project).
abbrev pub uid_cmp : Uid → Uid → Ordering
uid_cmp u v = ordering_then (text_cmp u.ty v.ty) (text_cmp u.id v.id)

-- The order of two pairs: first their keys, and then their values (this project).
abbrev pub pair_cmp : List ℕ × Datum → List ℕ × Datum → Ordering
pair_cmp p q = ordering_then (text_cmp p.0 q.0) (datum_cmp p.1 q.1)

-- The order of two sets as lists of members. A beginning of a list comes before the list (this project).
abbrev pub members_cmp : List Datum → List Datum → Ordering
members_cmp = slice_cmp datum_cmp

-- The order of two records as lists of pairs. A beginning of a list comes before the list (this project).
abbrev pub pairs_cmp : List (List ℕ × Datum) → List (List ℕ × Datum) → Ordering
pairs_cmp = slice_cmp pair_cmp

-- Each member is below those after it (this project).
abbrev pub IsAscending : List Datum → Type 0
IsAscending = IsStrictlySortedBy datum_cmp

-- Each key is below those after it (this project).
abbrev pub AreKeysAscending : List (List ℕ × Datum) → Type 0
AreKeysAscending ps = IsStrictlySortedBy text_cmp (map (λ p. p.0) ps)
