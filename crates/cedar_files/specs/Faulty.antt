-- Policies with faults, given what the files hold.
use Rattle.std.specs.Prelude.{◌≡◌, []}
use Rattle.cedar_check.specs.declared.report.Report.{Report}
use Rattle.cedar_check_spec.specs.Reports.{AreFaultsWith}
use Rattle.cedar_check_spec.specs.declared.settings.Settings.{Settings}
use Rattle.cedar_auth.specs.declared.not_validated.NotValidated.{NotValidated}
use Rattle.cedar_auth.specs.declared.validation_fault.ValidationFault.TheVariants.{Faults}
use Rattle.cedar_files.specs.ReportText.{Reports}
use Rattle.cedar_files.specs.Roles.{Holdings}
use Rattle.cedar_files.specs.Validation.{Hold}

-- The files hold the schema and the policies that are handed back. Strict validation under these settings finds faults in them, and
-- they are handed back with its report (own; Cedar documentation, policy validation).
pub record AreFaulty (settings : Settings) (holds : Holdings) (refused : NotValidated) : Type 0 where
  pub hold : Hold settings.language holds refused.schema refused.policies
  pub some : ¬ AreFaultsWith settings refused.schema refused.policies.policies []
  pub report : Report
  pub is_report : refused.fault ≡ Faults report
  pub reports : Reports settings refused.schema refused.policies.policies report
