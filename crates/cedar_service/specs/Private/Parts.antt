-- Parts of the policies, by their positions.
use Rattle.std.specs.Prelude.{ℕ, List, [], ◌∷◌, slice_get}
use Rattle.std.specs.List.{cons_option}
use Rattle.cedar_ast.specs.PolicyTree.{PolicyTree}

-- the policies at these positions
abbrev pub policies_at : List PolicyTree → List ℕ → List PolicyTree
policies_at ps [] = []
policies_at ps (k ∷ ks) = cons_option (slice_get ps k) (policies_at ps ks)
