use Rattle.std.proofs.Common.{List, [], ◌∷◌, ap, map, refl, sym, subst, ◌∙◌, length, arith}
use Rattle.std.specs.Prelude.{option_copied}
use Rattle.std.proofs.lemmas.List.{length-map}
use Rattle.cedar_check.specs.FaultView.{fault_view}
use Rattle.cedar_check.specs.declared.fault.Fault.{Fault}
use Rattle.cedar_check_spec.specs.Reports.{AreFaultsWith, AreWarningsWith}
use Rattle.cedar_files.specs.declared.report_place.ReportPlace.{ReportPlace}
use Rattle.cedar_files.proofs.Parts.{one-found}
use Rattle.cedar_files.proofs.reporting.Reporting.append_next.Goals as goal

pub returns-clause-appended : goal.returns-clause-appended
returns-clause-appended c = λ _.
    let settings = c.args.self.now.settings in
    let s = c.args.self.now.validator in
    let p = c.in-Some.policy.now in
    let xs = c.deref.result.now in
    let ids = c.deref-2.result.now in
    let at = sym c.policy.ensures ∙ ap option_copied c.in-Some.is in
    let to = c.in_ok-append_policy.ensures.counted in
    let faults = subst (λ (ys : List Fault). AreFaultsWith settings s (p ∷ []) (map fault_view ys)) (sym c.deref.ensures.value) c.in_ok-report.ensures.faults in
    let warnings = subst (AreWarningsWith settings s (p ∷ [])) (sym c.deref-2.ensures.value) c.in_ok-report.ensures.warnings in (
      ap (λ (place : ReportPlace). place.policy) to,
      one-found settings s c.args.self.now.policies.now.policies p c.args.place.now c.append_policy.new.self (length xs) (length ids) (map fault_view xs) ids c.args.text.now c.append_policy.new.text
          at (omega (arith, c.count.ensures.policies, c.if-place-count.false)) faults warnings c.in_ok-append_policy.ensures.told (sym (length-map xs fault_view)) refl to,
    )
