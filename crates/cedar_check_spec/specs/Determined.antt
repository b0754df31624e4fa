-- Typing leaves no choice: one type, one report (own).
use Rattle.std.specs.Prelude.{◌≡◌, ◌↔◌, List, [], Contains}
use Rattle.cedar_ast_expressions.specs.Expression.{Expression}
use Rattle.cedar_ast.specs.PolicyTree.{PolicyTree}
use Rattle.cedar_schema_types.specs.declared.truth.Truth.TheVariants.{True, False}
use Rattle.cedar_schema_spec.specs.declared.environment.Environment.{Environment}
use Rattle.cedar_schema_types.specs.Types.{TypeTree}
use Rattle.cedar_schema_types.specs.Types as kind
use Rattle.cedar_schema_spec.specs.SchemaTree.{SchemaTree, environments_of}
use Rattle.cedar_check_spec.specs.Capabilities.{Capability, Capabilities, Has, AreSame}
use Rattle.cedar_check_spec.specs.Typing.{TypesWith}
use Rattle.cedar_check_spec.specs.Acceptance.{IsAcceptedInWith, IsAcceptedWith, IsImpossibleWith}
use Rattle.cedar_check_spec.specs.Reports.{FaultTree, fault_at, AreFaultsOfWith, AreFaultsWith, AreWarningsWith}
use Rattle.cedar_check_spec.specs.declared.settings.Settings.{Settings}

-- Under these settings an expression has at most one type, and gains at most one set of capabilities (own).
abbrev pub TypingIsOneWith : Settings → Type 0
TypingIsOneWith settings = (s : SchemaTree) (env : Environment) (held one two : Capabilities) (e : Expression) (t u : TypeTree) → TypesWith settings s env held e t one → TypesWith settings s env held e u two → (t ≡ u) × AreSame one two

-- The type is that of what is known true, or known false (Cedar documentation, strict validation).
abbrev pub IsKnown : TypeTree → Type 0
IsKnown (kind.boolean True) = Unit {0}
IsKnown (kind.boolean False) = Unit {0}
IsKnown _ = ⊥

-- Under these settings what is known true or known false gains nothing (own).
abbrev pub KnownGainsNothingWith : Settings → Type 0
KnownGainsNothingWith settings = (s : SchemaTree) (env : Environment) (held gained : Capabilities) (e : Expression) (t : TypeTree) → TypesWith settings s env held e t gained → IsKnown t → (x : Capability) → ¬ Has x gained

-- Some value has the property, and no other one has it (own).
abbrev pub HasOne : {A : Type 0} → (A → Type 0) → Type 0
HasOne {A} P = (x : A) × P x × ((y : A) → P y → y ≡ x)

-- Under these settings policies have one list of faults, and one of warnings (own).
abbrev pub ReportIsOneWith : Settings → Type 0
ReportIsOneWith settings = (s : SchemaTree) (ps : List PolicyTree) → HasOne (AreFaultsWith settings s ps) × HasOne (AreWarningsWith settings s ps)

-- The fault is that of one of these policies in an environment of the schema in which it is not accepted (Cedar documentation,
-- policy validation).
pub record IsRefusal (settings : Settings) (s : SchemaTree) (ps : List PolicyTree) (f : FaultTree) : Type 0 where
  pub policy : PolicyTree
  pub environment : Environment
  pub listed : Contains ps policy
  pub declared : Contains (environments_of s.actions) environment
  pub refused : ¬ IsAcceptedInWith settings s environment policy
  pub is : f ≡ fault_at policy environment

-- Under these settings the faults of policies are those of all such policies and environments, and no others (Cedar documentation, policy validation).
abbrev pub FaultsAreRefusalsWith : Settings → Type 0
FaultsAreRefusalsWith settings = (s : SchemaTree) (ps : List PolicyTree) (faults : List FaultTree) → AreFaultsWith settings s ps faults → (f : FaultTree) → Contains faults f ↔ IsRefusal settings s ps f

-- Under these settings policies have no fault exactly where each of them is accepted (Cedar documentation, policy validation).
abbrev pub AcceptedHaveNoFaultWith : Settings → Type 0
AcceptedHaveNoFaultWith settings = (s : SchemaTree) (ps : List PolicyTree) → AreFaultsWith settings s ps [] ↔ ((p : PolicyTree) → Contains ps p → IsAcceptedWith settings s p)

-- Under these settings a policy that no request can satisfy has no fault (Cedar documentation, policy validation: impossible
-- policies).
abbrev pub ImpossibleHasNoFaultWith : Settings → Type 0
ImpossibleHasNoFaultWith settings = (s : SchemaTree) (p : PolicyTree) → IsImpossibleWith settings s p → AreFaultsOfWith settings s p []
