use Rattle.std.proofs.Common.{◌≡◌, None, drop, map}
use Rattle.cedar_schema_spec.specs.SchemaTree.{SchemaTree}
use Rattle.cedar_check_spec.specs.declared.settings.Settings.{Settings}
use Rattle.cedar_check.specs.FaultView.{fault_view}
use Rattle.cedar_files.specs.ReportPart.{IsReportPart, beginning}
use Rattle.cedar_files.specs.ReportText.{Reports}
use Rattle.cedar_files.proofs.Telling.{AreApart, IsLeft}
use Rattle.cedar_files.proofs.report.report_text.Given as goal

abbrev pub invariant-loop-position : goal.invariant-loop-position
invariant-loop-position l = record {
  apart : AreApart (drop l.position l.policies.policies);
  at : l.place.policy ≡ l.position;
  left : (settings : Settings) (s : SchemaTree) → Reports settings s l.policies.policies l.report → IsLeft settings s l.policies.policies l.position (map fault_view l.faults) l.warnings;
  part : (settings : Settings) (s : SchemaTree) → Reports settings s l.policies.policies l.report → IsReportPart settings s l.policies.policies (beginning None) l.place l.text;
}
