use Rattle.cedar_files.specs.ReportText.{fault_line}
use Rattle.cedar_check.specs.FaultView.{fault_view}
use Rattle.cedar_files.proofs.Parts.{appends-left-out, appends-taken}
use Rattle.cedar_files.proofs.report_place.ReportPlace.append_fault.Goals as goal
use Rattle.cedar_files.proofs.report_place.ReportPlace.append_fault.Goals.{then-take_line+in_ok-append_fault, else-take_line}

pub returns-clause-told : goal.returns-clause-told
returns-clause-told c =
    let line = fault_line (fault_view c.args.fault.now) in
    let taken = c.take_line.ensures.taken line in
    elim c.if-take_line.branch [
      | then-take_line+in_ok-append_fault w ↦ appends-taken c.args.self.now.lines line c.take_line.result _ _ c.if-take_line.text taken w.if-take_line.true w.in_ok-append_fault.ensures w.text-is
      | else-take_line w ↦ appends-left-out c.args.self.now.lines line c.take_line.result _ c.if-take_line.text taken w.if-take_line.false w.text-is
    ]
