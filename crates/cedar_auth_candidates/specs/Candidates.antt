-- Which policies are kept for each environment of a schema.
use Rattle.std.specs.Prelude.{◌≡◌, ℕ, List, Contains, Option, Some, option_and_then}
use Rattle.std.specs.BTreeMap.{is_at}
use Rattle.std.specs.List.{slice_get}
use Rattle.std.specs.List.Sorted.{IsStrictlyIncreasing}
use Rattle.std.specs.Map.{lookup}
use Rattle.cedar_value.specs.Order.{text_cmp, uid_cmp}
use Rattle.cedar_value.specs.World.{World}
use Rattle.cedar_value.specs.declared.request.Request.{Request}
use Rattle.cedar_value.specs.declared.uid.Uid.{Uid}
use Rattle.cedar_ast.specs.PolicyTree.{PolicyTree}
use Rattle.cedar_schema.specs.Positions.{IsEnvironmentAt}
use Rattle.cedar_schema_spec.specs.declared.environment.Environment.{Environment}
use Rattle.cedar_schema_spec.specs.Conformance.{FitsIn}
use Rattle.cedar_schema_spec.specs.SchemaTree.{SchemaTree, environments_of}
use Rattle.cedar_check_spec.specs.Candidates.{IsCandidate}
use Rattle.cedar_auth_spec.specs.Candidates.{AreCandidates}
use Rattle.cedar_auth_candidates.specs.Index.{IndexTree, IsIndexOf, IsListingBy, ListingTree}
use Rattle.cedar_auth_candidates.specs.Reached.{IsReached}

-- What is kept about the policies: their index, and a listing for each action, each type of its principals and each type of its
-- resources, also as a list in the order of the environments (own).
pub record CandidatesTree : Type 0 where
  pub index : IndexTree
  pub rows : List (Uid × List (List ℕ × List (List ℕ × ListingTree)))
  pub listings : List ListingTree

-- The listing that is kept for an action and two types, where there is one (own).
abbrev pub listing_at : CandidatesTree → Uid → List ℕ → List ℕ → Option ListingTree
listing_at candidates u n m =
    option_and_then (λ cells. lookup (is_at (text_cmp m)) cells) (option_and_then (λ row. lookup (is_at (text_cmp n)) row) (lookup (is_at (uid_cmp u)) candidates.rows))

-- There is a listing of the index, with exactly the policies whose scopes may be met in the environment (own).
pub record IsKeptFor (s : SchemaTree) (ps : List PolicyTree) (index : IndexTree) (env : Environment) (found : Option ListingTree) : Type 0 where
  pub listing : ListingTree
  pub is : found ≡ Some listing
  pub candidates : AreCandidates s ps env listing.positions
  pub listed : IsListingBy index listing

-- The index is one of these policies, and for each environment of the schema a listing is kept, with exactly the policies whose
-- scopes may be met in it. The same at the position of each environment (own).
pub record AreCandidatesFor (s : SchemaTree) (ps : List PolicyTree) (candidates : CandidatesTree) : Type 0 where
  pub indexed : IsIndexOf ps candidates.index
  pub kept : (env : Environment) → Contains (environments_of s.actions) env → IsKeptFor s ps candidates.index env (listing_at candidates env.action env.principal env.resource)
  pub placed : (position : ℕ) (env : Environment) → slice_get (environments_of s.actions) position ≡ Some env → IsKeptFor s ps candidates.index env (slice_get candidates.listings position)

-- The positions are those of the policies whose scopes may be met in the environment of the request. This holds for each schema
-- and policies for which these are the candidates (own).
abbrev pub HasPositions : CandidatesTree → Request → List ℕ → Type 0
HasPositions candidates q positions =
    (s : SchemaTree) (ps : List PolicyTree) (env : Environment) → AreCandidatesFor s ps candidates → FitsIn s env q → AreCandidates s ps env positions

-- Each policy whose scope may be met in the environment, and that the request reaches, is selected, and each position is that of
-- a policy whose scope may be met in the environment (own; cedar-spec, Lean: Cedar.Thm, slicing).
pub record IsSelected (s : SchemaTree) (ps : List PolicyTree) (env : Environment) (q : Request) (w : World) (positions : List ℕ) : Type 0 where
  pub reached : (k : ℕ) (p : PolicyTree) → slice_get ps k ≡ Some p → IsCandidate s env p → IsReached q w p → Contains positions k
  pub among : (k : ℕ) → Contains positions k → (p : PolicyTree) × (slice_get ps k ≡ Some p) × IsCandidate s env p

-- The same for the environment of the request. This holds for each schema and policies for which these are the candidates
-- (own).
abbrev pub HasSelected : CandidatesTree → Request → World → List ℕ → Type 0
HasSelected candidates q w positions =
    (s : SchemaTree) (ps : List PolicyTree) (env : Environment) → AreCandidatesFor s ps candidates → FitsIn s env q → IsSelected s ps env q w positions

-- The same, and the positions ascend (own).
abbrev pub HasSelectedInOrder : CandidatesTree → Request → World → List ℕ → Type 0
HasSelectedInOrder candidates q w positions =
    (s : SchemaTree) (ps : List PolicyTree) (env : Environment) → AreCandidatesFor s ps candidates → FitsIn s env q
    → IsStrictlyIncreasing positions × IsSelected s ps env q w positions

-- The same for a request whose environment is at the position (own).
abbrev pub HasSelectedInOrderAt : CandidatesTree → ℕ → Request → World → List ℕ → Type 0
HasSelectedInOrderAt candidates position q w positions =
    (s : SchemaTree) (ps : List PolicyTree) (env : Environment) → AreCandidatesFor s ps candidates → FitsIn s env q
    → IsEnvironmentAt (environments_of s.actions) q.action q.principal.ty q.resource.ty position
    → IsStrictlyIncreasing positions × IsSelected s ps env q w positions
