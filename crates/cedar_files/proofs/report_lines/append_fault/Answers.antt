use Rattle.std.proofs.Common.{refl}
use Rattle.cedar_check.specs.FaultView.{fault_view}
use Rattle.cedar_check_operators.specs.Numbers.{number_of}
use Rattle.cedar_files.specs.ReportJson.{fault_data}
use Rattle.cedar_files.specs.ReportText.{fault_line}
use Rattle.cedar_files.proofs.Telling.{line-behind}
use Rattle.cedar_files.proofs.report_lines.append_fault.Goals as goal

pub returns : goal.returns
returns c =
    line-behind c.end.result (fault_line (fault_view c.args.fault.now)) (fault_data (fault_view c.args.fault.now) (number_of c.args.fault.now.reason)) _ _ _ _ _ (c.args.fault.now.reason, refl)
    c.begin-writer.ensures.text c.begin-writer.ensures.tokens c.in_ok-write_fault.ensures.tokens c.end.ensures
