-- How deep a value nests, and a set or a record on its own.
use Rattle.std.specs.Prelude.{ℕ, suc, max, List}
use Rattle.cedar_value.specs.Datum.{Datum, boolean, long, text, uid, set, record_of, extension, Members, no_members, member, Fields, no_fields, field, members_of, fields_of}

abbrev mutual
  pub weight : Datum → ℕ
  weight (boolean b) = 0
  weight (long z) = 0
  weight (text s) = 0
  weight (uid u) = 0
  weight (set ms) = suc (members_weight ms)
  weight (record_of fs) = suc (fields_weight fs)
  weight (extension e) = 0

  pub members_weight : Members → ℕ
  members_weight no_members = 0
  members_weight (member d ms) = max (suc (weight d)) (members_weight ms)

  pub fields_weight : Fields → ℕ
  fields_weight no_fields = 0
  fields_weight (field k d fs) = max (suc (weight d)) (fields_weight fs)

abbrev pub list_weight : List Datum → ℕ
list_weight ds = members_weight (members_of ds)

abbrev pub pairs_weight : List (List ℕ × Datum) → ℕ
pairs_weight ps = fields_weight (fields_of ps)
