-- What contracts see of a descendant.
use Rattle.cedar_value.specs.World.{World}
use Rattle.cedar_value.specs.declared.uid.Uid.{Uid}

-- A uid, and the world in which it is asked what the entity with it is below (this project).
pub record DescendantView : Type 0 where
  pub world : World
  pub uid : Uid
