-- Which policies the entities of a request reach, given the uids that scopes name.
use Rattle.std.specs.Prelude.{◌≡◌, ◌⊎◌, Some}
use Rattle.cedar_value.specs.World.{World, Below}
use Rattle.cedar_value.specs.declared.request.Request.{Request}
use Rattle.cedar_value.specs.declared.uid.Uid.{Uid}
use Rattle.cedar_ast.specs.declared.scope.EntityScope.{EntityScope}
use Rattle.cedar_ast.specs.Scope.{entity_in}
use Rattle.cedar_ast.specs.PolicyTree.{PolicyTree}

-- The entity is the one that the scope names, or is below it. A scope that names no entity is always reached (Cedar language
-- reference, policy scope).
abbrev pub Reaches : World → Uid → EntityScope Uid → Type 0
Reaches w e scope = (u : Uid) → entity_in scope ≡ Some u → (e ≡ u) ⊎ Below w e u

-- The request's principal and its resource reach the scopes of the policy (own; cedar-spec, Lean: Cedar.Thm, slicing).
abbrev pub IsReached : Request → World → PolicyTree → Type 0
IsReached q w p = Reaches w q.principal p.scope.principal × Reaches w q.resource p.scope.resource
