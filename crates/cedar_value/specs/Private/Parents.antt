-- Single links of a world.
use Rattle.std.specs.Prelude.{Contains}
use Rattle.cedar_value.specs.World.{World, parents_of}
use Rattle.cedar_value.specs.declared.uid.Uid.{Uid}

-- one link leads from the one up to the other
abbrev pub IsParent : World → Uid → Uid → Type 0
IsParent w u v = Contains (parents_of w u) v
