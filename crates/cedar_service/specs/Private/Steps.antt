-- One step of a job.
use Rattle.std.specs.Prelude.{◌≡◌, Bool, true, List, [], ◌∷◌}
use Rattle.cedar_ast.specs.PolicyTree.{PolicyTree}
use Rattle.cedar_service_law.specs.Jobs.{JobTree, Advances, is_finished}

-- a finished job stays as it is; another one advances, and the flag says whether none is left
abbrev pub StepsTo : JobTree → List PolicyTree → Bool → JobTree → Type 0
StepsTo old [] finished new = (finished ≡ true) × (new ≡ old)
StepsTo old (p ∷ rest) finished new = Advances old old.configuration p rest new × (finished ≡ is_finished new)
