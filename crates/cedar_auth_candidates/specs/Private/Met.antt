-- Whether a scope is met, as a test.
use Rattle.std.specs.Prelude.{◌≡◌, Bool, true, ◌&&◌, ◌||◌, List}
use Rattle.std.specs.List.{list_any}
use Rattle.std.specs.Str.{bytes_eq}
use Rattle.cedar_value.specs.Datum.{same_uid}
use Rattle.cedar_value.specs.World.{World, below}
use Rattle.cedar_value.specs.declared.request.Request.{Request}
use Rattle.cedar_value.specs.declared.uid.Uid.{Uid}
use Rattle.cedar_store.specs.DescendantView.{DescendantView}
use Rattle.cedar_ast.specs.declared.scope.EntityScope.{EntityScope}
use Rattle.cedar_ast.specs.declared.scope.EntityScope.TheVariants as entity
use Rattle.cedar_ast.specs.declared.scope.ActionScope.{ActionScope}
use Rattle.cedar_ast.specs.declared.scope.ActionScope.TheVariants as action
use Rattle.cedar_ast.specs.declared.scope.Scope.{Scope}

-- the one entity is the other, or below it
abbrev pub is_within : World → Uid → Uid → Bool
is_within w v u = same_uid v u || below w v u

-- the same for one of these
abbrev pub is_within_one_of : World → Uid → List Uid → Bool
is_within_one_of w v us = list_any (is_within w v) us

-- the entity is what the scope requires
abbrev pub is_entity_met : World → Uid → EntityScope Uid → Bool
is_entity_met w v entity.Any = true
is_entity_met w v (entity.Equal u) = same_uid v u
is_entity_met w v (entity.In u) = is_within w v u
is_entity_met w v (entity.Is ty) = bytes_eq v.ty ty
is_entity_met w v (entity.IsIn ty u) = bytes_eq v.ty ty && is_within w v u

-- the action is what the scope requires
abbrev pub is_action_met : World → Uid → ActionScope Uid → Bool
is_action_met w v action.Any = true
is_action_met w v (action.Equal u) = same_uid v u
is_action_met w v (action.In u) = is_within w v u
is_action_met w v (action.InSet us) = is_within_one_of w v us

-- the request meets each of the three sides
abbrev pub is_scope_met : World → Request → Scope Uid Uid → Bool
is_scope_met w q s = is_entity_met w q.resource s.resource && (is_entity_met w q.principal s.principal && is_action_met w q.action s.action)

-- what is kept for an entity of a request is that entity in that world
abbrev pub IsEntityOf : World → Uid → DescendantView → Type 0
IsEntityOf w u d = (d.world ≡ w) × (d.uid ≡ u)
