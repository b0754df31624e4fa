-- What contracts see of a matcher of scopes.
use Rattle.cedar_value.specs.World.{World}
use Rattle.cedar_value.specs.declared.request.Request.{Request}

-- A request, and the world over which scopes are tested for it (this project).
pub record ScopeMatcherView : Type 0 where
  pub request : Request
  pub world : World
