-- The results of the calls that read a request from its parts.
use Rattle.std.specs.Prelude.{◌≡◌}
use Rattle.cedar_value.specs.Names.{IsName}
use Rattle.cedar_value.specs.declared.uid.Uid.{Uid}
use Rattle.cedar_conform.specs.declared.request.RequestUids.{RequestUids}
use Rattle.cedar_conform.specs.Parts.{AreNamed, PartsTree}

-- the uid is that of the parts, whose type is a name
abbrev pub IsUidOf : Uid → Uid → Type 0
IsUidOf parts u = IsName parts.ty × (u ≡ parts)

-- the uids are those of the parts, whose types are names
pub record AreUidsOf (parts : PartsTree) (u : RequestUids) : Type 0 where
  pub named : AreNamed parts
  pub principal : u.principal ≡ parts.principal
  pub action : u.action ≡ parts.action
  pub resource : u.resource ≡ parts.resource
