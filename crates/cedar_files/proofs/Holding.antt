-- Lemmas on what the files hold.
use Rattle.std.proofs.Common.{◌≡◌, ℕ, List, sym, subst}
use Rattle.std.specs.Prelude.{IfSome}
use Rattle.cedar_ext.specs.declared.language.Language.{Language}
use Rattle.cedar_value.specs.declared.request.Request.{Request}
use Rattle.cedar_ast.specs.PolicySetTree.{PolicySetTree}
use Rattle.cedar_schema_spec.specs.Conformance.{Conforms}
use Rattle.cedar_schema_spec.specs.SchemaTree.{SchemaTree}
use Rattle.cedar_schema_spec.specs.WellFormed.{AreTypesApart}
use Rattle.cedar_check_spec.specs.declared.settings.Settings.{Settings}
use Rattle.cedar_conform.specs.Requests.{LineDenotes}
use Rattle.cedar_auth_spec.specs.Headline.{IsAnsweredSoundlyWith}
use Rattle.cedar_auth_spec.specs.Ready.{ReadyTree}
use Rattle.cedar_auth_spec.specs.Validation.{IsValidatedWith, ValidatedTree}
use Rattle.cedar_files.specs.Authorization.{HoldAll}
use Rattle.cedar_files.specs.EntitiesFile.{HoldsWorld}
use Rattle.cedar_files.specs.LinksFile.{HoldsLinked}
use Rattle.cedar_files.specs.Roles.{Holdings}
use Rattle.cedar_files.specs.Validation.{Hold, HoldText}
use Rattle.cedar_files.specs.declared.files.Role.TheVariants.{Links, Entities}

-- what the files hold, once the links are entered
pub hold-linked : (language : Language) (holds : Holdings) (s : SchemaTree) (text set : PolicySetTree) → HoldText language holds s text
    → IfSome (holds Links) (λ held. HoldsLinked held text set) → Hold language holds s set
hold-linked language holds s text set h linked = record { text = text; hold_text = h; are_linked = linked }

-- the same of a schema and policies that were handed back
pub hold-back : (language : Language) (holds : Holdings) (s back_s : SchemaTree) (set back_set : PolicySetTree) → Hold language holds s set → (back_s ≡ s) × (back_set ≡ set)
    → Hold language holds back_s back_set
hold-back language holds s back_s set back_set hold same =
    subst (λ (x : SchemaTree). Hold language holds x back_set) (sym same.0) (subst (λ (x : PolicySetTree). Hold language holds s x) (sym same.1) hold)

-- the same of policies that are ready over the entities
pub hold-all : (holds : Holdings) (v : ValidatedTree) (r : ReadyTree) → Hold v.settings.language holds v.schema v.policies
    → (r.schema ≡ v.schema) × (r.policies ≡ v.policies) → r.settings ≡ v.settings → IfSome (holds Entities) (λ held. HoldsWorld v.schema held r.world)
    → AreTypesApart r.schema → IsValidatedWith r.settings r.schema r.policies.policies → Conforms r.schema r.world
    → ((line : List ℕ) (q : Request) → LineDenotes r.schema line q → IsAnsweredSoundlyWith r.settings r.policies.policies q r.world)
    → HoldAll v.settings holds r
hold-all holds v r hold same settings world apart validated conforms sound = record {
  hold = hold-back v.settings.language holds v.schema r.schema v.policies r.policies hold same;
  settings_are = settings;
  validated = subst (λ (x : Settings). IsValidatedWith x r.schema r.policies.policies) settings validated;
  is_world = subst (λ (x : SchemaTree). IfSome (holds Entities) (λ held. HoldsWorld x held r.world)) (sym same.0) world;
  apart = apart;
  conforms = conforms;
  sound = λ line q denoted. subst (λ (x : Settings). IsAnsweredSoundlyWith x r.policies.policies q r.world) settings (sound line q denoted);
}
