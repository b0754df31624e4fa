-- The test of membership in a type: the keys of a record and the names of its type are walked side by side.
use Rattle.std.specs.Prelude.{ℕ, Bool, true, false, List, [], ◌∷◌, Option, Some, None, if◌then◌else◌}
use Rattle.std.specs.List.{list_all}
use Rattle.std.specs.Ordering.{match_ordering}
use Rattle.std.specs.Str.{bytes_eq}
use Rattle.cedar_ext.specs.Extensions.{type_of, same_type}
use Rattle.cedar_value.specs.Datum.{Datum, boolean, long, text, uid, set, record_of, extension, list_of, pairs_of}
use Rattle.cedar_value.specs.Order.{text_cmp}
use Rattle.cedar_schema_types.specs.Types.{TypeTree, Attributes, no_attributes, attribute}
use Rattle.cedar_schema_types.specs.Types as kind
use Rattle.cedar_conform_values.specs.Values.{allows}

abbrev pub none_left : List (List ℕ × Datum) → Bool
none_left [] = true
none_left (p ∷ ps) = false

-- the pairs, where nothing has to come before them
abbrev pub unless_required : Bool → List (List ℕ × Datum) → Option (List (List ℕ × Datum))
unless_required true ps = None
unless_required false ps = Some ps

-- the pairs after the one at an attribute's name, none where that pair may not be there
abbrev pub behind : List ℕ → Bool → (Datum → Bool) → List (List ℕ × Datum) → Option (List (List ℕ × Datum))
behind k r test [] = unless_required r []
behind k r test (p ∷ ps) = match_ordering (text_cmp k p.0) (unless_required r (p ∷ ps)) (if test p.1 then Some ps else None) None

abbrev pub holds : (List (List ℕ × Datum) → Bool) → Option (List (List ℕ × Datum)) → Bool
holds test None = false
holds test (Some ps) = test ps

unfoldable mutual
  pub is_member : TypeTree → Datum → Bool
  is_member (kind.boolean f) (boolean b) = allows f b
  is_member kind.long (long n) = true
  is_member kind.string (text s) = true
  is_member (kind.entity n) (uid u) = bytes_eq u.ty n
  is_member (kind.set t) (set ms) = list_all (is_member t) (list_of ms)
  is_member (kind.record_of a) (record_of fs) = are_fields a (pairs_of fs)
  is_member (kind.extension t) (extension e) = same_type (type_of e) t
  is_member _ _ = false

  pub are_fields : Attributes → List (List ℕ × Datum) → Bool
  are_fields no_attributes ps = none_left ps
  are_fields (attribute k r t a) ps = holds (are_fields a) (behind k r (is_member t) ps)
