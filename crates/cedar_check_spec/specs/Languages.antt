-- The language has no part in validation: what is accepted in the profile is accepted in Cedar 4, with the same report.
use Rattle.std.specs.Prelude.{◌≡◌, ℕ, List}
use Rattle.cedar_ast.specs.PolicyTree.{PolicyTree}
use Rattle.cedar_schema_spec.specs.SchemaTree.{SchemaTree}
use Rattle.cedar_check_spec.specs.Acceptance.{IsAcceptedWith}
use Rattle.cedar_check_spec.specs.Reports.{AreFaultsWith, AreWarningsWith, FaultTree}
use Rattle.cedar_check_spec.specs.declared.settings.Settings.{Settings}

-- Two settings take the same choices, so that they differ at most in the language (own).
abbrev pub TakeSameChoices : Settings → Settings → Type 0
TakeSameChoices a b = a.any_decimal ≡ b.any_decimal

-- A policy that is accepted in one language is accepted in the other (own).
abbrev pub AcceptanceIsKept : Type 0
AcceptanceIsKept = (a b : Settings) → TakeSameChoices a b → (s : SchemaTree) (p : PolicyTree) → IsAcceptedWith a s p → IsAcceptedWith b s p

-- Policies have the same faults and the same warnings in both languages (own).
abbrev pub ReportsAreKept : Type 0
ReportsAreKept = (a b : Settings) → TakeSameChoices a b → (s : SchemaTree) (ps : List PolicyTree)
    → ((faults : List FaultTree) → AreFaultsWith a s ps faults → AreFaultsWith b s ps faults)
    × ((ids : List (List ℕ)) → AreWarningsWith a s ps ids → AreWarningsWith b s ps ids)
