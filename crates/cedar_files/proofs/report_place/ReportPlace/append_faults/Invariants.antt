use Rattle.std.proofs.Common.{◌≡◌, ◌+◌, map, take}
use Rattle.cedar_check.specs.FaultView.{fault_view}
use Rattle.cedar_files.specs.ReportPart.{limit_after}
use Rattle.cedar_files.specs.ReportText.{fault_line}
use Rattle.cedar_files.specs.Private.Reporting.{AppendsWithin}
use Rattle.cedar_files.proofs.report_place.ReportPlace.append_faults.Given as goal

abbrev pub invariant-loop-fault : goal.invariant-loop-fault
invariant-loop-fault l = record {
  told : AppendsWithin l.fn.self.lines (map fault_line (map fault_view (take l.fault-index l.faults))) l.fn.text l.text;
  place : l.self ≡ record l.fn.self { faults = l.fn.self.faults + l.fault-index; lines = limit_after l.fn.self.lines l.fault-index };
}
