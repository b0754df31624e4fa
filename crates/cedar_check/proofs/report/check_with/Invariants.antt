use Rattle.std.proofs.Common.{map, take}
use Rattle.cedar_check_spec.specs.Reports.{AreFaultsWith, AreWarningsWith}
use Rattle.cedar_check.specs.FaultView.{fault_view}
use Rattle.cedar_check.proofs.report.check_with.Given as goal

abbrev pub invariant-loop-position : goal.invariant-loop-position
invariant-loop-position l = record {
  faults : AreFaultsWith l.settings l.schema (take l.position l.policies.policies) (map fault_view l.report.faults.items);
  warnings : AreWarningsWith l.settings l.schema (take l.position l.policies.policies) l.report.warnings.items;
}
