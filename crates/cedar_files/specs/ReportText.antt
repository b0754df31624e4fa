-- The text of a report on policies (own; Cedar documentation, policy validation).
use Rattle.std.specs.Prelude.{◌≡◌, ℕ, List, [], ◌∷◌, ◌++◌, length, map}
use Rattle.serde_json.specs.Written.{compact_text}
use Rattle.base_lines.specs.Lines.{line_feed}
use Rattle.cedar_ast.specs.PolicyTree.{PolicyTree}
use Rattle.cedar_schema_spec.specs.SchemaTree.{SchemaTree}
use Rattle.cedar_check_spec.specs.Acceptance.{IsImpossibleWith}
use Rattle.cedar_check_spec.specs.Reports.{FaultTree, AreFaultsOfWith, AreFaultsWith, AreWarningsWith}
use Rattle.cedar_check_spec.specs.declared.settings.Settings.{Settings}
use Rattle.cedar_check.specs.FaultView.{fault_view}
use Rattle.cedar_check_operators.specs.Numbers.{number_of}
use Rattle.cedar_check.specs.declared.report.Report.{Report}
use Rattle.cedar_check_operators.specs.declared.type_fault.TypeFault.{TypeFault}
use Rattle.cedar_files.specs.ReportJson.{fault_data, totals_data, warning_data}

-- What a line of a report says: a fault, a warning with the policy's id, or how many of each there are (own).
pub data ReportLine : Type 0 where
  fault_line : FaultTree → ReportLine
  warning_line : List ℕ → ReportLine
  totals_line : ℕ → ℕ → ReportLine

-- What is reported of these policies under these settings, in their order: a warning for a policy that no request can satisfy,
-- and its faults for another policy (Cedar documentation, policy validation).
pub data AreReported (settings : Settings) (s : SchemaTree) : List PolicyTree → List ReportLine → Type 0 where
  of_none : AreReported settings s [] []
  of_satisfiable : {p : PolicyTree} {ps : List PolicyTree} {faults : List FaultTree} {lines : List ReportLine} → ¬ IsImpossibleWith settings s p → AreFaultsOfWith settings s p faults → AreReported settings s ps lines
      → AreReported settings s (p ∷ ps) (map fault_line faults ++ lines)
  of_impossible : {p : PolicyTree} {ps : List PolicyTree} {lines : List ReportLine} → IsImpossibleWith settings s p → AreReported settings s ps lines → AreReported settings s (p ∷ ps) (warning_line p.id ∷ lines)

-- What strict validation under these settings finds in these policies for this schema: their faults and their warnings, in
-- order (Cedar documentation, policy validation).
pub record Reports (settings : Settings) (s : SchemaTree) (ps : List PolicyTree) (report : Report) : Type 0 where
  pub faults : AreFaultsWith settings s ps (map fault_view report.faults.items)
  pub warnings : AreWarningsWith settings s ps report.warnings.items

-- The text is such a line, without its LF. For a fault it gives the number of some reason; tests fix which one (own).
abbrev pub Tells : ReportLine → List ℕ → Type 0
Tells (fault_line f) text = (reason : TypeFault) × (text ≡ compact_text (fault_data f (number_of reason)))
Tells (warning_line policy) text = text ≡ compact_text (warning_data policy)
Tells (totals_line faults warnings) text = text ≡ compact_text (totals_data faults warnings)

-- The text is these lines of a report, in their order, each with its LF (JSON Lines, line terminator).
abbrev pub TellsEach : List ReportLine → List ℕ → Type 0
TellsEach [] text = text ≡ []
TellsEach (line ∷ lines) text = (told more : List ℕ) × Tells line told × (text ≡ told ++ (line_feed ∷ more)) × TellsEach lines more

-- The text is a report on these policies for this schema under these settings: what is reported of each policy, and then how
-- many faults and warnings there are (own).
pub record IsReportText (settings : Settings) (s : SchemaTree) (ps : List PolicyTree) (text : List ℕ) : Type 0 where
  pub lines : List ReportLine
  pub faults : List FaultTree
  pub warnings : List (List ℕ)
  pub reported : AreReported settings s ps lines
  pub are_faults : AreFaultsWith settings s ps faults
  pub are_warnings : AreWarningsWith settings s ps warnings
  pub told : TellsEach (lines ++ totals_line (length faults) (length warnings) ∷ []) text
