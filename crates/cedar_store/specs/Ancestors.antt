-- What a list of ancestors gains.
use Rattle.std.specs.Prelude.{◌≡◌, ◌≢◌, ◌↔◌, ◌++◌, List, map, Contains, AllPairs}
use Rattle.std.specs.Borrow.{Bor}
use Rattle.cedar_value.specs.World.{World, Below}
use Rattle.cedar_value.specs.declared.uid.Uid.{Uid}

-- The new list is the old one and then, each once, the uids that the entity is below, and no others (Cedar language
-- reference, hierarchy).
pub record AddsAncestors (w : World) (low : Uid) (old new : List (Bor Uid)) : Type 0 where
  pub added : List (Bor Uid)
  pub appended : new ≡ old ++ added
  pub once : AllPairs (λ u v. u ≢ v) (map (λ u. u.now) added)
  pub above : (v : Uid) → Contains (map (λ u. u.now) added) v ↔ Below w low v
