use Rattle.std.proofs.Common.{ℕ, List, subst}
use Rattle.cedar_check.specs.declared.report.Report.{Report}
use Rattle.cedar_files.specs.ReportText.{Reports}
use Rattle.cedar_c.specs.Buffers.{IsGiven}
use Rattle.cedar_c.proofs.OneReport.{one_report}
use Rattle.cedar_c.proofs.publishing.give_report.Goals as goal

pub returns-in-Ok-clause-faults : goal.returns-in-Ok-clause-faults
returns-in-Ok-clause-faults c =
    let refused = c.args.refused.now in
    let same = one_report refused.fault c.requires.report c.in-Faults.report c.requires.is_report c.in-Faults.is in
    let reports = subst (λ (r : Report). Reports c.args.settings refused.schema refused.policies.policies r) same c.requires.reports in
    λ _. (
      c.in-Ok.told.items,
      record {
        schema = refused.schema;
        policies = refused.policies;
        hold = c.requires.hold;
        some = c.requires.some;
        is_report = c.in-Ok.ensures c.args.settings refused.schema reports;
      },
      subst (λ (told : List ℕ). IsGiven told c.args.text.now c.give-room.new.out c.give-room.new.written) c.deref.ensures.value c.give-room.ensures.given,
    )
