use Rattle.std.proofs.Common.{refl}
use Rattle.cedar_files.specs.ReportJson.{totals_data}
use Rattle.cedar_files.specs.ReportText.{totals_line}
use Rattle.cedar_files.proofs.Telling.{line-behind}
use Rattle.cedar_files.proofs.report_lines.append_totals.Goals as goal

pub returns : goal.returns
returns c =
    line-behind c.end.result (totals_line c.args.faults c.args.warnings) (totals_data c.args.faults c.args.warnings) _ _ _ _ _ refl
    c.begin-writer.ensures.text c.begin-writer.ensures.tokens c.in_ok-write_totals.ensures.tokens c.end.ensures
