-- What is reported on texts, in place of publishing them.
use Rattle.std.specs.Prelude.{◌⊎◌, ℕ, List, []}
use Rattle.cedar_ast.specs.PolicySetTree.{PolicySetTree}
use Rattle.cedar_schema_spec.specs.SchemaTree.{SchemaTree}
use Rattle.cedar_check_spec.specs.Reports.{AreFaultsWith}
use Rattle.cedar_check_spec.specs.declared.settings.Settings.{Settings}
use Rattle.cedar_files.specs.ReportText.{IsReportText}
use Rattle.cedar_files.specs.Roles.{Holdings}
use Rattle.cedar_files.specs.Standing.{IsRefusalLine}
use Rattle.cedar_files.specs.Validation.{Hold, IsRefused}
use Rattle.cedar_files.specs.declared.files.Role.{Role}
use Rattle.cedar_files.specs.declared.refusal.FileRefusal.{FileRefusal}
use Rattle.cedar_c.specs.Publishing.{HaveFaults}

-- The files hold policies in which strict validation under these settings finds no faults for their schema, and this is the report on
-- them, which may have warnings (Cedar documentation, policy validation).
pub record HaveNoFaults (settings : Settings) (holds : Holdings) (report : List ℕ) : Type 0 where
  pub schema : SchemaTree
  pub policies : PolicySetTree
  pub hold : Hold settings.language holds schema policies
  pub none : AreFaultsWith settings schema policies.policies []
  pub is_report : IsReportText settings schema policies.policies report

-- One of the files that are read for a report is refused in the language of these settings, and this is the line that says so (own).
pub record IsRefusedIn (settings : Settings) (holds : Holdings) (line : List ℕ) : Type 0 where
  pub role : Role
  pub why : FileRefusal
  pub refused : IsRefused settings.language holds role why
  pub is_line : IsRefusalLine role why line

-- The text is what the program prints for these files under these settings: a report, or the line that refuses a file (own).
abbrev pub IsReported : Settings → Holdings → List ℕ → Type 0
IsReported settings holds text = HaveNoFaults settings holds text ⊎ HaveFaults settings holds text ⊎ IsRefusedIn settings holds text
