-- What validation writes, given what the files hold.
use Rattle.std.specs.Prelude.{ℕ, List, ◌++◌, IfSome}
use Rattle.cedar_ext.specs.declared.language.Language.{Language}
use Rattle.cedar_ast.specs.PolicyTree.{PolicyTree}
use Rattle.cedar_ast.specs.PolicySetTree.{PolicySetTree}
use Rattle.cedar_schema_spec.specs.SchemaTree.{SchemaTree}
use Rattle.cedar_check_spec.specs.declared.settings.Settings.{Settings}
use Rattle.cedar_files.specs.LinksFile.{HoldsLinked, HoldsNoLinks}
use Rattle.cedar_files.specs.PolicyFile.{HoldsNoPolicies, HoldsPolicies}
use Rattle.cedar_files.specs.SchemaFile.{HoldsNoSchema, HoldsSchema}
use Rattle.cedar_files.specs.ReportText.{IsReportText}
use Rattle.cedar_files.specs.Roles.{Holdings}
use Rattle.cedar_files.specs.declared.files.Role.{Role}
use Rattle.cedar_files.specs.declared.files.Role.TheVariants.{Schema, Policies, Links}
use Rattle.cedar_files.specs.declared.refusal.FileRefusal.{FileRefusal}

-- In a language, the schema file holds this schema and the policy file these policies and templates, where it is known what they hold (own).
pub record HoldText (language : Language) (holds : Holdings) (s : SchemaTree) (text : PolicySetTree) : Type 0 where
  pub is_schema : IfSome (holds Schema) (λ held. HoldsSchema language held s)
  pub are_policies : IfSome (holds Policies) (λ held. HoldsPolicies language held text)

-- In a language, the files hold this schema and these policies: those of the policy file and, after them, those that the links file links from
-- its templates, where it is known what the files hold (own).
pub record Hold (language : Language) (holds : Holdings) (s : SchemaTree) (set : PolicySetTree) : Type 0 where
  pub text : PolicySetTree
  pub hold_text : HoldText language holds s text
  pub are_linked : IfSome (holds Links) (λ held. HoldsLinked held text set)

-- The file that is judged first in a language among those that are refused, and why: the schema file; or the policy file beside a schema; or the
-- links file beside a schema and policies (own).
abbrev pub IsRefused : Language → Holdings → Role → FileRefusal → Type 0
IsRefused language holds Schema refusal = IfSome (holds Schema) (λ held. HoldsNoSchema language held refusal)
IsRefused language holds Policies refusal =
    ((s : SchemaTree) × IfSome (holds Schema) (λ held. HoldsSchema language held s)) × IfSome (holds Policies) (λ held. HoldsNoPolicies language held refusal)
IsRefused language holds Links refusal =
    (s : SchemaTree) × (text : PolicySetTree) × HoldText language holds s text × IfSome (holds Links) (λ held. HoldsNoLinks held text refusal)
IsRefused language holds _ refusal = ⊥

-- The text is a beginning of a report on these policies for this schema under these settings (own).
abbrev pub BeginsReport : Settings → SchemaTree → List PolicyTree → List ℕ → Type 0
BeginsReport settings s ps text = (more : List ℕ) × IsReportText settings s ps (text ++ more)
