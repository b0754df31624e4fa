-- What an index of policies keeps, and what it selects.
use Rattle.std.specs.Prelude.{◌≡◌, ℕ, Bool, true, List, [], Contains, Option, None, Some, unwrap_or}
use Rattle.std.specs.List.{slice_get}
use Rattle.std.specs.Map.{lookup}
use Rattle.base_bits.specs.Bits.{has_bit}
use Rattle.cedar_value.specs.Datum.{same_uid}
use Rattle.cedar_value.specs.World.{World}
use Rattle.cedar_value.specs.declared.request.Request.{Request}
use Rattle.cedar_value.specs.declared.uid.Uid.{Uid}
use Rattle.cedar_ast.specs.PolicyTree.{PolicyTree}
use Rattle.cedar_auth_candidates.specs.Reached.{IsReached}
use Rattle.cedar_ast.specs.Scope.{entity_in}

-- An index of policies: the positions of policies under the uids that scopes name, of principals and of resources, and a row with
-- a bit for the position of each policy whose scope names neither (own).
pub record IndexTree : Type 0 where
  pub principals : List (Uid × List ℕ)
  pub resources : List (Uid × List ℕ)
  pub unnamed : List ℕ

-- The positions under a uid, and none where the table lacks it (own).
abbrev pub positions_under : List (Uid × List ℕ) → Uid → List ℕ
positions_under table u = unwrap_or (lookup (same_uid u) table) []

-- The position of a policy is kept according to the uids that its scope names for the principal and for the resource: under the
-- first that there is, and as a bit where there is neither (own).
abbrev pub IsKept : IndexTree → Option Uid → Option Uid → ℕ → Type 0
IsKept index (Some u) other k = Contains (positions_under index.principals u) k
IsKept index None (Some u) k = Contains (positions_under index.resources u) k
IsKept index None None k = has_bit index.unnamed k ≡ true

-- Each of the policies is kept according to what its scope names (own).
abbrev pub IsIndexOf : List PolicyTree → IndexTree → Type 0
IsIndexOf ps index =
    (k : ℕ) (p : PolicyTree) → slice_get ps k ≡ Some p → IsKept index (entity_in p.scope.principal) (entity_in p.scope.resource) k

-- Some of the policies: all their positions, those of them at which a scope names no uid, and whether some are kept under a uid of
-- principals, and under one of resources (own).
pub record ListingTree : Type 0 where
  pub positions : List ℕ
  pub unnamed : List ℕ
  pub by_principal : Bool
  pub by_resource : Bool

-- The positions of the listing that the index keeps as bits are among the listing's unnamed, and the listing says so where the index
-- keeps one under a uid of principals, or of resources (own).
pub record IsListingBy (index : IndexTree) (listing : ListingTree) : Type 0 where
  pub unnamed : (k : ℕ) → Contains listing.positions k → has_bit index.unnamed k ≡ true → Contains listing.unnamed k
  pub by_principal : (k : ℕ) (u : Uid) → Contains listing.positions k → Contains (positions_under index.principals u) k → listing.by_principal ≡ true
  pub by_resource : (k : ℕ) (u : Uid) → Contains listing.positions k → Contains (positions_under index.resources u) k → listing.by_resource ≡ true

-- Each policy of the listing that the request reaches is selected, where the index was made of these policies (own; cedar-spec,
-- Lean: Cedar.Thm, slicing).
abbrev pub HasReached : IndexTree → ListingTree → Request → World → List ℕ → Type 0
HasReached index listing q w selected =
    (ps : List PolicyTree) → IsIndexOf ps index → IsListingBy index listing
    → (k : ℕ) (p : PolicyTree) → Contains listing.positions k → slice_get ps k ≡ Some p → IsReached q w p → Contains selected k
