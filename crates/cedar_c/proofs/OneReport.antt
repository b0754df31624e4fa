-- A fault that is a report has one report.
use Rattle.std.proofs.Common.{◌≡◌, sym, ap, ◌∙◌}
use Rattle.cedar_check.specs.declared.report.Report.{Report}
use Rattle.cedar_auth.specs.declared.validation_fault.ValidationFault.{ValidationFault}
use Rattle.cedar_auth.specs.declared.validation_fault.ValidationFault.TheVariants.{OutOfMemory, Faults, TooLong}

abbrev report_or : Report → ValidationFault → Report
report_or other OutOfMemory = other
report_or other (Faults report) = report
report_or other TooLong = other

pub one_report : (fault : ValidationFault) (a b : Report) → fault ≡ Faults a → fault ≡ Faults b → a ≡ b
one_report fault a b is_a is_b = ap (report_or a) (sym is_a ∙ is_b)
