-- The row of numbers by which values are ordered: the number of the kind, and then what it holds.
use Rattle.std.specs.Prelude.{ℕ, ◌+◌, ℤ, pos, ◌+ℤ◌, Bool, true, false, List, [], ◌∷◌}
use Rattle.cedar_ext.specs.Extensions.{extension_row}
use Rattle.cedar_value.specs.Datum.{Datum, boolean, long, text, uid, set, record_of, extension, Members, no_members, member, Fields, no_fields, field}

-- Each row goes before a rest, which is empty after a whole value.

-- The row of a text: each byte plus 1, then 0 (this project).
abbrev pub text_row : List ℕ → List ℤ → List ℤ
text_row [] rest = pos 0 ∷ rest
text_row (b ∷ bs) rest = pos (b + 1) ∷ text_row bs rest

-- The number of a Boolean: 0 for false, 1 for true (this project).
abbrev pub truth_number : Bool → ℤ
truth_number false = pos 0
truth_number true = pos 1

-- The row of a value: first the number of its kind. Then, for a number, that number plus 9223372036854775808. For
-- a uid, its type's text and its id. For a set, the rows of its members and 0. For a record, for each pair 1, the key and the
-- value, and at the end 0 (this project).
abbrev mutual
  pub row : Datum → List ℤ → List ℤ
  row (boolean b) rest = pos 1 ∷ truth_number b ∷ rest
  row (long z) rest = pos 2 ∷ (z +ℤ pos 9223372036854775808) ∷ rest
  row (text s) rest = pos 3 ∷ text_row s rest
  row (uid u) rest = pos 4 ∷ text_row u.ty (text_row u.id rest)
  row (set ms) rest = pos 5 ∷ members_row ms rest
  row (record_of fs) rest = pos 6 ∷ fields_row fs rest
  row (extension e) rest = pos 7 ∷ extension_row e rest

  -- The rows of members, and 0 (this project).
  pub members_row : Members → List ℤ → List ℤ
  members_row no_members rest = pos 0 ∷ rest
  members_row (member d ms) rest = row d (members_row ms rest)

  -- For each field 1, its key and its value, and 0 at the end (this project).
  pub fields_row : Fields → List ℤ → List ℤ
  fields_row no_fields rest = pos 0 ∷ rest
  fields_row (field k d fs) rest = pos 1 ∷ text_row k (row d (fields_row fs rest))
