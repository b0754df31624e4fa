-- Files, by their roles.
use Rattle.std.specs.Prelude.{ℕ, List, Option}
use Rattle.cedar_files.specs.declared.files.Role.{Role}
use Rattle.cedar_files.specs.declared.files.Role.TheVariants.{Schema, Policies, Links, Entities}

-- The one of four that belongs to a role: schema, policies, links, entities (own).
abbrev pub by_role : {X : Type 0} → X → X → X → X → Role → X
by_role s p l e Schema = s
by_role s p l e Policies = p
by_role s p l e Links = l
by_role s p l e Entities = e

-- What the file of each role holds, where that is known: its bytes, or none where the command line names no such file (own).
abbrev pub Holdings : Type 0
Holdings = Role → Option (Option (List ℕ))
