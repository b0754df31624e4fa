-- What strict validation of a set of policies gives.
use Rattle.std.specs.Prelude.{List, Contains}
use Rattle.cedar_ast.specs.PolicyTree.{PolicyTree}
use Rattle.cedar_ast.specs.PolicySetTree.{PolicySetTree}
use Rattle.cedar_schema_spec.specs.SchemaTree.{SchemaTree}
use Rattle.cedar_check_spec.specs.Acceptance.{IsAcceptedWith}
use Rattle.cedar_check_spec.specs.Settings.{default_settings}
use Rattle.cedar_check_spec.specs.declared.settings.Settings.{Settings}

-- Strict validation under these settings accepts the policies for the schema: each of them, in every environment (Cedar
-- documentation, policy validation).
pub record IsValidatedWith (settings : Settings) (s : SchemaTree) (ps : List PolicyTree) : Type 0 where
  pub each : (p : PolicyTree) → Contains ps p → IsAcceptedWith settings s p

-- A schema, the policies that strict validation under these settings accepts for it, and their templates (Cedar documentation,
-- policy validation; own: the settings).
pub record ValidatedTree : Type 0 where
  pub schema : SchemaTree
  pub policies : PolicySetTree
  pub settings : Settings

-- Strict validation accepts the policies for the schema, with no setting on: each of them, in every environment (Cedar
-- documentation, policy validation).
abbrev pub IsValidated : SchemaTree → List PolicyTree → Type 0
IsValidated = IsValidatedWith default_settings
