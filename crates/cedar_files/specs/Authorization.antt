-- What the files hold for authorization, and which of them is refused first.
use Rattle.std.specs.Prelude.{◌≡◌, ◌⊎◌, ℕ, List, None, IfSome}
use Rattle.cedar_ext.specs.declared.language.Language.{Language}
use Rattle.cedar_value.specs.World.{World}
use Rattle.cedar_value.specs.declared.request.Request.{Request}
use Rattle.cedar_ast.specs.PolicySetTree.{PolicySetTree}
use Rattle.cedar_schema_spec.specs.Conformance.{Conforms}
use Rattle.cedar_schema_spec.specs.SchemaTree.{SchemaTree}
use Rattle.cedar_schema_spec.specs.WellFormed.{AreTypesApart}
use Rattle.cedar_conform.specs.Requests.{LineDenotes}
use Rattle.cedar_conform.specs.RequestsWithEntities.{LineDenotesWithEntities}
use Rattle.cedar_check_spec.specs.declared.settings.Settings.{Settings}
use Rattle.cedar_auth_spec.specs.Codes.{HasLongCode}
use Rattle.cedar_auth_spec.specs.Headline.{IsAnsweredSoundlyWith}
use Rattle.cedar_auth_spec.specs.Ready.{ReadyTree}
use Rattle.cedar_auth_spec.specs.Validation.{IsValidatedWith}
use Rattle.cedar_files.specs.EntitiesFile.{HoldsNoWorld, HoldsWorld}
use Rattle.cedar_files.specs.Roles.{Holdings}
use Rattle.cedar_files.specs.Validation.{Hold, IsRefused}
use Rattle.cedar_files.specs.declared.files.Role.{Role}
use Rattle.cedar_files.specs.declared.files.Role.TheVariants.{Schema, Policies, Links, Entities}
use Rattle.cedar_files.specs.declared.refusal.FileRefusal.{FileRefusal}

-- The files hold a schema, policies and a world, where it is known what they hold. Strict validation under these settings
-- accepts the policies for the schema, no action's type is an entity type of the schema, the world conforms to it, and each
-- request that a line denotes for it is answered soundly (own; Cedar documentation, policy validation; cedar-spec, Lean:
-- Cedar.Thm).
pub record HoldAll (settings : Settings) (holds : Holdings) (r : ReadyTree) : Type 0 where
  pub hold : Hold settings.language holds r.schema r.policies
  pub settings_are : r.settings ≡ settings
  pub validated : IsValidatedWith settings r.schema r.policies.policies
  pub is_world : IfSome (holds Entities) (λ held. HoldsWorld r.schema held r.world)
  pub apart : AreTypesApart r.schema
  pub conforms : Conforms r.schema r.world
  pub sound : (line : List ℕ) (q : Request) → LineDenotes r.schema line q → IsAnsweredSoundlyWith settings r.policies.policies q r.world

-- Each request that a line denotes is answered soundly over the world that the line denotes for it, with the entities that it brings (own;
-- cedar-spec, Lean: Cedar.Thm).
abbrev pub AreAnsweredSoundlyWithEntities : ReadyTree → Type 0
AreAnsweredSoundlyWithEntities r =
    (line : List ℕ) (q : Request) (w : World) → LineDenotesWithEntities r.schema r.world line q w → IsAnsweredSoundlyWith r.settings r.policies.policies q w

-- The code of one of the policies, or of one that is linked, would have over 1,000,000 instructions. The policy file is then
-- refused with 701, without a place (own).
abbrev pub IsTooLong : Language → Holdings → FileRefusal → Type 0
IsTooLong language holds refusal =
    (s : SchemaTree) × (set : PolicySetTree) × Hold language holds s set × HasLongCode set.policies × (refusal ≡ record { number = 701; offset = None })

-- The file that is judged first among those that are refused, and why: the schema file; or the policy file beside a schema; or the
-- links file beside both; or, for too long a code, the policy file; or the entities file beside a schema and policies that strict
-- validation under these settings accepts (own).
abbrev pub IsFirstRefused : Settings → Holdings → Role → FileRefusal → Type 0
IsFirstRefused settings holds Schema refusal = IsRefused settings.language holds Schema refusal
IsFirstRefused settings holds Policies refusal = IsRefused settings.language holds Policies refusal ⊎ IsTooLong settings.language holds refusal
IsFirstRefused settings holds Links refusal = IsRefused settings.language holds Links refusal
IsFirstRefused settings holds Entities refusal =
    (s : SchemaTree) × (set : PolicySetTree) × Hold settings.language holds s set × IsValidatedWith settings s set.policies × IfSome (holds Entities) (λ held. HoldsNoWorld s held refusal)
