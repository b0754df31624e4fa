-- Entities that were read whole, and the uids that have a number.
use Rattle.std.specs.Prelude.{◌⊎◌, ℕ, List, IsTrue}
use Rattle.cedar_value.specs.World.{World, Below}
use Rattle.cedar_value.specs.declared.uid.Uid.{Uid}
use Rattle.cedar_store.specs.Private.Kept.{in_row}

pub record BaseTree : Type 0 where
  pub world : World
  pub keys : List Uid

-- the uid is marked, or is below a uid that is marked
abbrev pub IsMarked : BaseTree → List ℕ → Uid → Type 0
IsMarked b marks p = IsTrue (in_row b.keys marks p) ⊎ ((x : Uid) × IsTrue (in_row b.keys marks x) × Below b.world p x)
