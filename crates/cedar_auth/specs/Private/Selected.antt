-- Which policies are run, by their positions.
use Rattle.std.specs.Prelude.{◌≡◌, ℕ, List, Contains, Some, Ok, false}
use Rattle.std.specs.List.{slice_get, filter_map}
use Rattle.cedar_value.specs.Datum.{boolean}
use Rattle.cedar_value.specs.World.{World}
use Rattle.cedar_value.specs.declared.request.Request.{Request}
use Rattle.cedar_ast.specs.PolicyTree.{PolicyTree}
use Rattle.cedar_ast.specs.Response.{meaning}

-- the policies at these positions
abbrev pub policies_at : List PolicyTree → List ℕ → List PolicyTree
policies_at ps ks = filter_map (slice_get ps) ks

-- a policy at another position than these is false
abbrev pub LeavesFalse : List PolicyTree → Request → World → List ℕ → Type 0
LeavesFalse ps q w ks = (i : ℕ) (p : PolicyTree) → slice_get ps i ≡ Some p → ¬ Contains ks i → meaning q w p ≡ Ok (boolean false)
