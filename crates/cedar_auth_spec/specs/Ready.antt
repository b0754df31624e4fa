-- What contracts see of policies that are ready to answer.
use Rattle.cedar_value.specs.World.{World}
use Rattle.cedar_ast.specs.PolicySetTree.{PolicySetTree}
use Rattle.cedar_schema_spec.specs.SchemaTree.{SchemaTree}
use Rattle.cedar_check_spec.specs.declared.settings.Settings.{Settings}

-- A schema, the policies that strict validation under these settings accepts for it, their templates, and the world in which
-- requests are answered (Cedar language reference, authorization; own: the settings).
pub record ReadyTree : Type 0 where
  pub schema : SchemaTree
  pub policies : PolicySetTree
  pub settings : Settings
  pub world : World
