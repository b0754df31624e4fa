use Rattle.std.proofs.Common.{refl}
use Rattle.cedar_files.specs.ReportJson.{warning_data}
use Rattle.cedar_files.specs.ReportText.{warning_line}
use Rattle.cedar_files.proofs.Telling.{line-behind}
use Rattle.cedar_files.proofs.report_lines.append_warning.Goals as goal

pub returns : goal.returns
returns c =
    line-behind c.end.result (warning_line c.args.policy.now) (warning_data c.args.policy.now) _ _ _ _ _ refl
    c.begin-writer.ensures.text c.begin-writer.ensures.tokens c.in_ok-write_warning.ensures.tokens c.end.ensures
