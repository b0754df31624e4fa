-- Which policies run for a request, given as their positions.
use Rattle.std.specs.Prelude.{◌≡◌, ◌↔◌, ◌<◌, ◌≤◌, ℕ, suc, false, List, [], ◌∷◌, length, Contains, Some, Ok}
use Rattle.std.specs.List.{slice_get}
use Rattle.cedar_value.specs.Datum.{boolean}
use Rattle.cedar_value.specs.World.{World}
use Rattle.cedar_value.specs.declared.request.Request.{Request}
use Rattle.cedar_ast.specs.PolicyTree.{PolicyTree}
use Rattle.cedar_ast.specs.Response.{meaning}
use Rattle.cedar_schema_spec.specs.declared.environment.Environment.{Environment}
use Rattle.cedar_schema_spec.specs.SchemaTree.{SchemaTree}
use Rattle.cedar_check_spec.specs.Candidates.{IsCandidate}

-- Positions ascend, from low on and below high (own).
abbrev pub Ascend : ℕ → ℕ → List ℕ → Type 0
Ascend low high [] = Unit {0}
Ascend low high (k ∷ ks) = (low ≤ k) × (k < high) × Ascend (suc k) high ks

-- The positions, ascending, of exactly those policies whose scopes may be met in the environment (own).
pub record AreCandidates (s : SchemaTree) (ps : List PolicyTree) (env : Environment) (positions : List ℕ) : Type 0 where
  pub ascend : Ascend 0 (length ps) positions
  pub exact : (i : ℕ) → Contains positions i ↔ ((p : PolicyTree) × (slice_get ps i ≡ Some p) × IsCandidate s env p)

-- The positions ascend, and a policy at any other position is false: it is neither satisfied nor does it err (own;
-- cedar-spec, Lean: Cedar.Thm, slicing).
pub record OthersAreFalse (ps : List PolicyTree) (q : Request) (w : World) (positions : List ℕ) : Type 0 where
  pub ascend : Ascend 0 (length ps) positions
  pub others : (i : ℕ) (p : PolicyTree) → slice_get ps i ≡ Some p → ¬ Contains positions i → meaning q w p ≡ Ok (boolean false)
