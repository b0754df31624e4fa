-- Why strict validation does not accept policies.
use Rattle.std.specs.Prelude.{ℕ, List, [], map, Option, Some, None}
use Rattle.cedar_ast.specs.PolicyTree.{PolicyTree}
use Rattle.cedar_schema_spec.specs.SchemaTree.{SchemaTree}
use Rattle.cedar_check_spec.specs.Reports.{AreFaultsWith, AreWarningsWith}
use Rattle.cedar_check_spec.specs.Settings.{default_settings}
use Rattle.cedar_check_spec.specs.declared.settings.Settings.{Settings}
use Rattle.cedar_check.specs.FaultView.{fault_view}
use Rattle.cedar_check.specs.declared.report.Report.{Report}
use Rattle.cedar_auth.specs.declared.validation_fault.ValidationFault.{ValidationFault}
use Rattle.cedar_auth.specs.declared.validation_fault.ValidationFault.TheVariants.{OutOfMemory, Faults, TooLong}
use Rattle.cedar_auth_spec.specs.Codes.{HasLongCode}

-- The report is that of strict validation under these settings, and it has faults (Cedar documentation, policy validation).
pub record HasReportWith (settings : Settings) (s : SchemaTree) (ps : List PolicyTree) (report : Report) : Type 0 where
  pub faults : AreFaultsWith settings s ps (map fault_view report.faults.items)
  pub warnings : AreWarningsWith settings s ps report.warnings.items
  pub some : ¬ AreFaultsWith settings s ps []

-- Under these settings the schema and the policies have the fault. Out of memory is not such a fault (own).
abbrev pub HasFaultWith : Settings → SchemaTree → List PolicyTree → ValidationFault → Type 0
HasFaultWith settings s ps OutOfMemory = Unit {0}
HasFaultWith settings s ps (Faults report) = HasReportWith settings s ps report
HasFaultWith settings s ps TooLong = HasLongCode ps

-- The schema and the policies have the fault, with no setting on. Out of memory is not such a fault (own).
abbrev pub HasFault : SchemaTree → List PolicyTree → ValidationFault → Type 0
HasFault = HasFaultWith default_settings

-- The number of a refusal. None for a report, whose faults have their own numbers (own).
abbrev pub number_of : ValidationFault → Option ℕ
number_of OutOfMemory = Some 1
number_of (Faults report) = None
number_of TooLong = Some 701
