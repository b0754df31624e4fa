use Rattle.std.proofs.Common.{List, [], map, sym, subst}
use Rattle.cedar_check.specs.FaultView.{fault_view}
use Rattle.cedar_check.specs.declared.fault.Fault.{Fault}
use Rattle.cedar_check_spec.specs.Reports.{AreFaultsWith, of_none, AreWarningsWith, on_none}
use Rattle.cedar_files.proofs.reporting.Reporting.found.Goals as goal

pub returns-in-Ok : goal.returns-in-Ok
returns-in-Ok c =
    let settings = c.args.self.now.settings in
    let s = c.args.self.now.validator in
    record {
      faults = c.in-Ok.ensures.faults [] (subst (λ (xs : List Fault). AreFaultsWith settings s [] (map fault_view xs)) (sym c.new-report.ensures.faults) of_none);
      warnings = c.in-Ok.ensures.warnings [] (subst (AreWarningsWith settings s []) (sym c.new-report.ensures.warnings) on_none);
    }
