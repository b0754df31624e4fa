use Rattle.std.proofs.Common.{ℕ, Option, map, ap, subst, sym, ◌∙◌}
use Rattle.std.proofs.lemmas.List.{length-map}
use Rattle.cedar_check.specs.FaultView.{fault_view}
use Rattle.cedar_files.specs.ReportPart.{limit_after}
use Rattle.cedar_files.specs.ReportText.{fault_line, warning_line}
use Rattle.cedar_files.specs.Private.Reporting.{AppendsWithin}
use Rattle.cedar_files.specs.declared.report_place.ReportPlace.{ReportPlace}
use Rattle.cedar_files.proofs.Parts.{appends-more}
use Rattle.cedar_files.proofs.report_place.ReportPlace.append_policy.Goals as goal

pub returns-clause-told : goal.returns-clause-told
returns-clause-told c =
    let xs = map fault_view c.args.faults.now in
    let n = length-map xs fault_line ∙ length-map c.args.faults.now fault_view in
    let after = ap (λ (place : ReportPlace). place.lines) c.in_ok-append_faults.ensures.counted ∙ ap (limit_after c.args.self.now.lines) (sym n) in
    appends-more c.args.self.now.lines (map fault_line xs) (map warning_line c.args.warnings.now) c.args.text.now c.append_faults.new.text c.append_warnings.new.text
    c.in_ok-append_faults.ensures.told
    (subst (λ (limit : Option ℕ). AppendsWithin limit (map warning_line c.args.warnings.now) c.append_faults.new.text c.append_warnings.new.text) after c.in_ok-append_warnings.ensures.told)
