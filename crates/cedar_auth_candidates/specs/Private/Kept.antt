-- What an index keeps, as its fields have it.
use Rattle.std.specs.Prelude.{◌≡◌, ◌<◌, ℕ, true, false, List, [], Contains, Option, None, Some, map, option_map, unwrap_or}
use Rattle.std.specs.Global.{Vec}
use Rattle.std.specs.List.{slice_get}
use Rattle.indexmap.specs.IndexMap.{IndexMap, get}
use Rattle.base_bits.specs.Bits.{has_bit}
use Rattle.cedar_value.specs.Datum.{same_uid}
use Rattle.cedar_value.specs.declared.uid.Uid.{Uid}
use Rattle.cedar_ast.specs.declared.scope.Scope.{Scope}
use Rattle.cedar_ast.specs.PolicyTree.{PolicyTree}
use Rattle.cedar_store.specs.declared.uid_hashing.UidHashing.{UidHashing}
use Rattle.cedar_auth_candidates.specs.Index.{IndexTree}
use Rattle.cedar_ast.specs.Scope.{entity_in}
use Rattle.cedar_auth_candidates.specs.declared.tables.Tables.{Tables}

-- the second list has all that the first has
abbrev pub Holds : List ℕ → List ℕ → Type 0
Holds ks js = (k : ℕ) → Contains ks k → Contains js k

-- for each uid a list of positions
abbrev pub Lists : Type 0
Lists = IndexMap Uid (Vec ℕ) UidHashing

-- the positions that are kept under a uid
abbrev pub list_at : Lists → Uid → List ℕ
list_at lists u = unwrap_or (option_map (λ v. v.items) (get same_uid lists u)) []

-- what was kept under a uid is still kept there
abbrev pub KeepsAll : Lists → Lists → Type 0
KeepsAll old new = (u : Uid) → Holds (list_at old u) (list_at new u)

-- the bits that were set are still set
abbrev pub KeepsBits : List ℕ → List ℕ → Type 0
KeepsBits old new = (k : ℕ) → has_bit old k ≡ true → has_bit new k ≡ true

-- the bit of each position is set
abbrev pub HasBits : List ℕ → List ℕ → Type 0
HasBits row ks = (k : ℕ) → Contains ks k → has_bit row k ≡ true

-- only the bits of these positions are set
abbrev pub HasBitsAlone : List ℕ → List ℕ → Type 0
HasBitsAlone row ks = (k : ℕ) → has_bit row k ≡ true → Contains ks k

-- none of the bits of these positions is set
abbrev pub LacksBits : List ℕ → List ℕ → Type 0
LacksBits row ks = (k : ℕ) → Contains ks k → has_bit row k ≡ false

-- no position is kept under a uid whose bit is set
abbrev pub KeepsNone : Lists → List ℕ → Type 0
KeepsNone lists row = (u : Uid) → LacksBits row (list_at lists u)

-- the row has a bit for each of the positions and for no other, and the unnamed are among them
pub record IsListed (row ks unnamed : List ℕ) : Type 0 where
  pub bits : HasBits row ks
  pub alone : HasBitsAlone row ks
  pub among : Holds unnamed ks

-- the tables still keep what they kept
pub record KeepsTables (old new : Tables) : Type 0 where
  pub unnamed : KeepsBits old.unnamed.items new.unnamed.items
  pub principals : KeepsAll old.principals new.principals
  pub resources : KeepsAll old.resources new.resources

-- the position of a policy is kept according to the uids that its scope names for the principal and for the resource
abbrev pub IsKeptAt : Tables → Option Uid → Option Uid → ℕ → Type 0
IsKeptAt tables (Some u) other k = Contains (list_at tables.principals u) k
IsKeptAt tables None (Some u) k = Contains (list_at tables.resources u) k
IsKeptAt tables None None k = has_bit tables.unnamed.items k ≡ true

-- the position of a policy is kept according to what its scope names
abbrev pub IsEntered : Tables → Scope Uid Uid → ℕ → Type 0
IsEntered tables scope k = IsKeptAt tables (entity_in scope.principal) (entity_in scope.resource) k

-- the policy is at the position
abbrev pub IsPolicyAt : List PolicyTree → ℕ → PolicyTree → Type 0
IsPolicyAt ps k p = slice_get ps k ≡ Some p

-- the same of each policy before a position
abbrev pub AreEntered : List PolicyTree → Tables → ℕ → Type 0
AreEntered ps tables count = (k : ℕ) (p : PolicyTree) → k < count → slice_get ps k ≡ Some p → IsEntered tables p.scope k

-- the entries of a table, in order
abbrev pub entries_of : Lists → List (Uid × List ℕ)
entries_of lists = map (λ e. (e.0, e.1.items)) lists.entries

-- the index that the tables are
abbrev pub tree_of : Tables → IndexTree
tree_of tables = record { principals = entries_of tables.principals; resources = entries_of tables.resources; unnamed = tables.unnamed.items }
