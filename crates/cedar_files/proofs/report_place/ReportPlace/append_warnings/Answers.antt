use Rattle.std.proofs.Common.{ℕ, List, [], ◌∷◌, Option, map, ap, subst}
use Rattle.std.proofs.lemmas.List.{length-map, map-append}
use Rattle.cedar_files.specs.ReportText.{warning_line}
use Rattle.cedar_files.specs.Private.Reporting.{AppendsWithin}
use Rattle.cedar_files.specs.declared.report_place.ReportPlace.{ReportPlace}
use Rattle.cedar_files.proofs.Parts.{lines-next, warnings-next}
use Rattle.cedar_files.proofs.report_place.ReportPlace.append_warnings.Goals as goal

pub loop-policy-preserved : goal.loop-policy-preserved
loop-policy-preserved c =
    let x = c.policy-item.result in
    let i = c.loop-policy.policy-index in
    let step = c.in_ok-append_warning.ensures in
    record {
      told =
          lines-next (λ (ys : List (List ℕ)). map warning_line ys) (λ (y : List ℕ). warning_line y) c.args.self.now.lines c.args.warnings.now i x c.args.text.now c.loop-policy.text c.append_warning.new.text
          (λ ys y. map-append warning_line ys (y ∷ [])) (λ ys. length-map ys warning_line) c.loop-policy-test.true c.policy-item.is c.loop-policy.invariant.told
          (subst (λ (limit : Option ℕ). AppendsWithin limit ((λ (y : List ℕ). warning_line y) x ∷ []) c.loop-policy.text c.append_warning.new.text) (ap (λ (place : ReportPlace). place.lines) c.loop-policy.invariant.place) step.told);
      place = warnings-next c.args.self.now c.loop-policy.self c.append_warning.new.self i c.loop-policy.invariant.place step.counted;
    }
