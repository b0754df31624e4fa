-- Links of a world: the test `below` decides whether a chain of them leads up.
use Rattle.std.proofs.Common.{◌≡◌, Bool, true, false, cond, List, [], ◌∷◌, map, Some, unwrap_or, refl, subst, Contains}
use Rattle.std.specs.Bool.{Decides}
use Rattle.std.specs.Option.{option_map}
use Rattle.std.proofs.Math.ListN.{length-map}
use Rattle.base_reach.proofs.Chains.{leads-Decides}
use Rattle.base_reach.proofs.Listed.{here, there, nowhere}
use Rattle.base_reach.specs.Closure.{AreListed}
use Rattle.cedar_value.specs.Datum.{same_uid}
use Rattle.cedar_value.specs.Private.Equality.{same_uid-Decides}
use Rattle.cedar_value.specs.World.{EntityTree, World, entry_of, parents_of, Below, below}
use Rattle.cedar_value.specs.Private.Parents.{IsParent}
use Rattle.cedar_value.specs.declared.uid.Uid.{Uid}

uids : World → List Uid
uids w = map (λ e. e.uid) w

-- what has a parent is an entity of the world
listed_step : (e : EntityTree) (w : World) (u v : Uid) (b : Bool) → same_uid e.uid u ≡ b → (IsParent w u v → Contains (uids w) u)
    → Contains (unwrap_or (option_map (λ x. x.parents) (cond b (Some e) (entry_of w u))) []) v → Contains (uids (e ∷ w)) u
unfolding uids
listed_step e w u v true same rest m = subst (Contains (e.uid ∷ map (λ (x : EntityTree). x.uid) w)) ((same_uid-Decides e.uid u).0 same) (here e.uid (map (λ (x : EntityTree). x.uid) w))
listed_step e w u v false same rest m = there e.uid (map (λ (x : EntityTree). x.uid) w) u (rest m)

are_listed : (w : World) → AreListed (parents_of w) (uids w)
unfolding uids
are_listed [] u v m = absurd (nowhere v m)
are_listed (e ∷ w) u v m = listed_step e w u v (same_uid e.uid u) refl (are_listed w u v) m

pub parents-listed : (w : World) → AreListed (parents_of w) (map (λ e. e.uid) w)
unfolding uids
parents-listed = are_listed

pub below-Decides : (w : World) (u v : Uid) → Decides (below w u v) (Below w u v)
unfolding below
below-Decides w u v = rw length-map at (leads-Decides same_uid same_uid-Decides (parents_of w) (map (λ (e : EntityTree). e.uid) w) (parents-listed w) u v)
