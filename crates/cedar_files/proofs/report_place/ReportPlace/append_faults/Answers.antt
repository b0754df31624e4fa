use Rattle.std.proofs.Common.{ℕ, List, [], ◌∷◌, Option, map, ap, subst, ◌∙◌}
use Rattle.std.proofs.lemmas.List.{length-map, map-append}
use Rattle.cedar_check.specs.FaultView.{fault_view}
use Rattle.cedar_check.specs.declared.fault.Fault.{Fault}
use Rattle.cedar_files.specs.ReportText.{fault_line}
use Rattle.cedar_files.specs.Private.Reporting.{AppendsWithin}
use Rattle.cedar_files.specs.declared.report_place.ReportPlace.{ReportPlace}
use Rattle.cedar_files.proofs.Parts.{lines-next, faults-next}
use Rattle.cedar_files.proofs.report_place.ReportPlace.append_faults.Goals as goal

pub loop-fault-preserved : goal.loop-fault-preserved
loop-fault-preserved c =
    let x = c.fault-item.result in
    let i = c.loop-fault.fault-index in
    let step = c.in_ok-append_fault.ensures in
    record {
      told =
          lines-next (λ (ys : List Fault). map fault_line (map fault_view ys)) (λ (y : Fault). fault_line (fault_view y)) c.args.self.now.lines c.args.faults.now i x c.args.text.now c.loop-fault.text c.append_fault.new.text
          (λ ys y. ap (map fault_line) (map-append fault_view ys (y ∷ [])) ∙ map-append fault_line (map fault_view ys) (fault_view y ∷ [])) (λ ys. length-map (map fault_view ys) fault_line ∙ length-map ys fault_view) c.loop-fault-test.true c.fault-item.is c.loop-fault.invariant.told
          (subst (λ (limit : Option ℕ). AppendsWithin limit ((λ (y : Fault). fault_line (fault_view y)) x ∷ []) c.loop-fault.text c.append_fault.new.text) (ap (λ (place : ReportPlace). place.lines) c.loop-fault.invariant.place) step.told);
      place = faults-next c.args.self.now c.loop-fault.self c.append_fault.new.self i c.loop-fault.invariant.place step.counted;
    }
