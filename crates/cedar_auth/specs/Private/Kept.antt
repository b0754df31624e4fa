-- What a `Validated` and a `Ready` keep.
use Rattle.std.specs.Prelude.{◌≡◌, ℕ, List, [], ◌∷◌, map, true, false, IfSome}
use Rattle.cedar_value.specs.World.{World}
use Rattle.cedar_ast.specs.PolicyTree.{PolicyTree}
use Rattle.cedar_schema_spec.specs.SchemaTree.{SchemaTree}
use Rattle.cedar_schema_spec.specs.Conformance.{Conforms}
use Rattle.cedar_ast.specs.Condition.{conditions_of}
use Rattle.cedar_conjunctions.specs.Alike.{AreAlike}
use Rattle.cedar_check_spec.specs.declared.settings.Settings.{Settings}
use Rattle.cedar_check_spec.specs.Reports.{AreFaultsWith, AreWarningsWith}
use Rattle.cedar_auth_spec.specs.Codes.{HasLongCode, policy_code}
use Rattle.cedar_auth_spec.specs.Validation.{IsValidatedWith}
use Rattle.cedar_auth_candidates.specs.Candidates.{AreCandidatesFor, CandidatesTree}
use Rattle.cedar_check.specs.FaultView.{fault_view}
use Rattle.cedar_auth.specs.declared.compiled.Compiled.{Compiled}
use Rattle.cedar_auth.specs.declared.judged.Judged.{Judged}

-- it is made of the policy: its code, and a conjunction only where its conditions are one
pub record IsCompiledFrom (c : Compiled) (p : PolicyTree) : Type 0 where
  pub code : c.code.instructions ≡ policy_code p
  pub conjunction : IfSome c.conjunction (λ e. AreAlike e (conditions_of p.conditions))

-- each is made of its policy, one by one
abbrev pub AreCompiled : List Compiled → List PolicyTree → Type 0
AreCompiled [] [] = Unit {0}
AreCompiled (c ∷ cs) (p ∷ ps) = IsCompiledFrom c p × AreCompiled cs ps
AreCompiled _ _ = ⊥

-- what was judged is what strict validation finds in these policies, and what is made of them, unless a code is too long
pub record IsJudged (settings : Settings) (s : SchemaTree) (ps : List PolicyTree) (judged : Judged) : Type 0 where
  pub faults : AreFaultsWith settings s ps (map fault_view judged.report.faults.items)
  pub warnings : AreWarningsWith settings s ps judged.report.warnings.items
  pub compiled : judged.too_long ≡ false → AreCompiled judged.compiled.items ps
  pub long : judged.too_long ≡ true → HasLongCode ps

pub record IsKept (settings : Settings) (s : SchemaTree) (ps : List PolicyTree) (compiled : List Compiled) (warnings : List (List ℕ)) : Type 0 where
  pub accepted : IsValidatedWith settings s ps
  pub made : AreCompiled compiled ps
  pub warned : AreWarningsWith settings s ps warnings

pub record IsReady (s : SchemaTree) (ps : List PolicyTree) (w : World) (kept : CandidatesTree) : Type 0 where
  pub conforms : Conforms s w
  pub candidates : AreCandidatesFor s ps kept
