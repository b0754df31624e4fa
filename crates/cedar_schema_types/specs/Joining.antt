-- The join of two types as a function, which the relation of `Joins` is proved to be.
use Rattle.std.specs.Prelude.{ℕ, Bool, true, false, ◌&&◌, bytes_eq, List, Option, Some, None, option_map}
use Rattle.cedar_ext.specs.Extensions.{same_type}
use Rattle.cedar_schema_types.specs.declared.truth.Truth.{Truth}
use Rattle.cedar_schema_types.specs.declared.truth.Truth.TheVariants.{True, False, Any}
use Rattle.cedar_schema_types.specs.Types.{TypeTree, boolean, long, string, entity, set, record_of, extension, Attributes, no_attributes, attribute}

-- Unlike forms of Boolean join to any (cedar-spec, Lean: Cedar.Validation.BoolType).
abbrev pub join_truths : Truth → Truth → Truth
join_truths True True = True
join_truths False False = False
join_truths _ _ = Any

-- An answer, where the test is true (own).
abbrev pub only_if : {A : Type 0} → Bool → Option A → Option A
only_if true r = r
only_if false r = None

-- Whether two Booleans are the same (own).
abbrev pub same_bool : Bool → Bool → Bool
same_bool true true = true
same_bool false false = true
same_bool _ _ = false

-- An attribute before others, where there are both (own).
abbrev pub joined_attribute : List ℕ → Bool → Option TypeTree → Option Attributes → Option Attributes
joined_attribute k r (Some t) (Some rest) = Some (attribute k r t rest)
joined_attribute k r (Some t) None = None
joined_attribute k r None rest = None

-- Nothing, where nothing is left (own).
abbrev pub no_more : Attributes → Option Attributes
no_more no_attributes = Some no_attributes
no_more (attribute k r t rest) = None

-- An attribute that is joined with the first of others, where both have one name and one requiredness (cedar-spec, Lean:
-- Cedar.Validation, least upper bounds of the strict mode).
abbrev pub with_first : List ℕ → Bool → (TypeTree → Option TypeTree) → (Attributes → Option Attributes) → Attributes → Option Attributes
with_first k r f rest no_attributes = None
with_first k r f rest (attribute l q u b) = only_if (bytes_eq k l && same_bool r q) (joined_attribute k r (f u) (rest b))

-- What two types join to, if anything: records of the same names and the same requiredness name by name, sets by their
-- members (cedar-spec, Lean: Cedar.Validation, least upper bounds of the strict mode).
abbrev mutual
  pub join : TypeTree → TypeTree → Option TypeTree
  join (boolean f) (boolean g) = Some (boolean (join_truths f g))
  join long long = Some long
  join string string = Some string
  join (entity n) (entity m) = only_if (bytes_eq n m) (Some (entity n))
  join (set t) (set u) = option_map set (join t u)
  join (record_of a) (record_of b) = option_map record_of (join_attributes a b)
  join (extension t) (extension u) = only_if (same_type t u) (Some (extension t))
  join _ _ = None

  -- What the attributes of two record types join to, name by name (cedar-spec, Lean: Cedar.Validation, least upper bounds of
  -- the strict mode).
  pub join_attributes : Attributes → Attributes → Option Attributes
  join_attributes no_attributes b = no_more b
  join_attributes (attribute k r t a) b = with_first k r (join t) (join_attributes a) b
