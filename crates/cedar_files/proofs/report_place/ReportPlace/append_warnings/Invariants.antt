use Rattle.std.proofs.Common.{◌≡◌, ◌+◌, map, take}
use Rattle.cedar_files.specs.ReportPart.{limit_after}
use Rattle.cedar_files.specs.ReportText.{warning_line}
use Rattle.cedar_files.specs.Private.Reporting.{AppendsWithin}
use Rattle.cedar_files.proofs.report_place.ReportPlace.append_warnings.Given as goal

abbrev pub invariant-loop-policy : goal.invariant-loop-policy
invariant-loop-policy l = record {
  told : AppendsWithin l.fn.self.lines (map warning_line (take l.policy-index l.warnings)) l.fn.text l.text;
  place : l.self ≡ record l.fn.self { warnings = l.fn.self.warnings + l.policy-index; lines = limit_after l.fn.self.lines l.policy-index };
}
