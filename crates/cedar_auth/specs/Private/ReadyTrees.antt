-- The tree of what is ready.
use Rattle.cedar_value.specs.World.{World}
use Rattle.cedar_auth_spec.specs.Ready.{ReadyTree}
use Rattle.cedar_auth.specs.declared.ready.Indexed.{Indexed}

-- the policies, over these entities
abbrev pub ready_tree : Indexed → World → ReadyTree
ready_tree i w = record { schema = i.validated.schema; policies = i.validated.policies; settings = i.validated.settings; world = w }
