-- A value, as a tree (cedar-spec, Lean: Cedar.Spec.Value).
use Rattle.std.specs.Prelude.{ℕ, ℤ, Bool, true, false, not, ◌&&◌, List, [], ◌∷◌}
use Rattle.std.specs.Ordering.{int_eq}
use Rattle.std.specs.Str.{bytes_eq}
use Rattle.cedar_ext.specs.declared.extension.Extension.{Extension}
use Rattle.cedar_ext.specs.Extensions.{same_extension}
use Rattle.cedar_value.specs.declared.uid.Uid.{Uid}

-- A Boolean, a whole number, a string given by its bytes, an entity's uid, a set given by its members, a record given by its
-- keys and their values, or a value of an extension type. `IsValue` says which of these trees are values (Cedar language
-- reference, data types; cedar-spec, Lean: Cedar.Spec.Value).
mutual
  pub data Datum : Type 0 where
    boolean : Bool → Datum
    long : ℤ → Datum
    text : List ℕ → Datum
    uid : Uid → Datum
    set : Members → Datum
    record_of : Fields → Datum
    extension : Extension → Datum

  -- The members of a set, in order (Cedar language reference, sets).
  pub data Members : Type 0 where
    no_members : Members
    member : Datum → Members → Members

  -- The keys of a record with their values, in order (Cedar language reference, records).
  pub data Fields : Type 0 where
    no_fields : Fields
    field : List ℕ → Datum → Fields → Fields

-- The elements of a list as members (Cedar language reference, sets).
abbrev pub members_of : List Datum → Members
members_of [] = no_members
members_of (d ∷ ds) = member d (members_of ds)

-- Members as a list (Cedar language reference, sets).
abbrev pub list_of : Members → List Datum
list_of no_members = []
list_of (member d ms) = d ∷ list_of ms

-- The pairs of a list as fields (Cedar language reference, records).
abbrev pub fields_of : List (List ℕ × Datum) → Fields
fields_of [] = no_fields
fields_of (p ∷ ps) = field p.0 p.1 (fields_of ps)

-- Fields as a list of pairs (Cedar language reference, records).
abbrev pub pairs_of : Fields → List (List ℕ × Datum)
pairs_of no_fields = []
pairs_of (field k d fs) = (k, d) ∷ pairs_of fs

-- Whether two Booleans are the same (Cedar language reference, `==`).
abbrev pub same_truth : Bool → Bool → Bool
same_truth true b = b
same_truth false b = not b

-- Whether two uids are the same: of one type, and with one id (Cedar language reference, `==`).
abbrev pub same_uid : Uid → Uid → Bool
same_uid u v = bytes_eq u.ty v.ty && bytes_eq u.id v.id

-- Whether two values are the same tree: of one kind, and the same part by part; `same_tells_equal_values` ties it to
-- equality (Cedar language reference, `==`).
abbrev mutual
  pub same : Datum → Datum → Bool
  same (boolean a) (boolean b) = same_truth a b
  same (long m) (long n) = int_eq m n
  same (text s) (text t) = bytes_eq s t
  same (uid u) (uid v) = same_uid u v
  same (set ms) (set ns) = same_members ms ns
  same (record_of fs) (record_of gs) = same_fields fs gs
  same (extension a) (extension b) = same_extension a b
  same _ _ = false

  -- Whether two lists of members are the same, member by member (Cedar language reference, `==`).
  pub same_members : Members → Members → Bool
  same_members no_members no_members = true
  same_members (member d ms) (member e ns) = same d e && same_members ms ns
  same_members _ _ = false

  -- Whether two lists of fields are the same, key by key and value by value (Cedar language reference, `==`).
  pub same_fields : Fields → Fields → Bool
  same_fields no_fields no_fields = true
  same_fields (field k d fs) (field l e gs) = (bytes_eq k l && same d e) && same_fields fs gs
  same_fields _ _ = false

-- Whether two lists are the same, element by element and in the same order, as those of two equal sets are
-- (Cedar language reference, `==`).
abbrev pub same_as_sets : List Datum → List Datum → Bool
same_as_sets ds es = same_members (members_of ds) (members_of es)

-- Whether two lists of pairs are the same, pair by pair and in the same order, as those of two equal records are
-- (Cedar language reference, `==`).
abbrev pub same_as_records : List (List ℕ × Datum) → List (List ℕ × Datum) → Bool
same_as_records ps qs = same_fields (fields_of ps) (fields_of qs)
