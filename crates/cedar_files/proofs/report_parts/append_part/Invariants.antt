use Rattle.std.proofs.Common.{◌≡◌, ◌⊎◌, ◌<◌}
use Rattle.cedar_files.specs.ReportPart.{IsReportPart}
use Rattle.cedar_files.proofs.report_parts.append_part.Given as goal

abbrev pub invariant-part : goal.invariant-part
invariant-part l = record {
  part : IsReportPart l.reporting.settings l.reporting.validator l.reporting.policies.now.policies l.fn.place l.place l.text;
  moved : (l.counter ≡ 0) ⊎ (l.fn.place.policy < l.place.policy);
}
