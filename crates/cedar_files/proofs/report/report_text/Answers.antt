use Rattle.std.proofs.Common.{◌≡◌, ℕ, [], ◌+◌, Some, ◌∙◌, length, sym, ap, map, refl, subst, arith}
use Rattle.std.specs.List.{slice_get}
use Rattle.std.specs.Prelude.{option_copied}
use Rattle.std.proofs.lemmas.List.{length-map}
use Rattle.cedar_check.specs.FaultView.{fault_view}
use Rattle.cedar_check_law.proofs.Reports.{faults_are, warnings_are}
use Rattle.cedar_files.specs.ReportText.{IsReportText}
use Rattle.cedar_files.specs.declared.report_place.ReportPlace.{ReportPlace}
use Rattle.cedar_files.proofs.Parts.{begin-part, join-on, one}
use Rattle.cedar_files.proofs.Sending.{is-whole}
use Rattle.cedar_files.proofs.Telling.{apart_next, apart_of, cut-next, not_past}
use Rattle.cedar_files.proofs.report.report_text.Goals as goal

pub loop-position-init : goal.loop-position-init
loop-position-init c = record {
  apart = apart_of c.args.policies.now.policies _ c.count-position-end.ensures.distinct;
  at = ap (λ (place : ReportPlace). place.policy) c.beginning-place.ensures;
  left = λ settings s r. record {
    faults = ap (map fault_view) c.as_slice-faults.ensures.value ∙ faults_are settings s r.faults;
    warnings = c.as_slice-warnings.ensures.value ∙ warnings_are settings s r.warnings;
  };
  part = λ settings s r. begin-part settings s c.args.policies.now.policies c.beginning-place.result c.new-text.result c.beginning-place.ensures c.new-text.ensures;
}

pub unreachable-requires : goal.unreachable-requires
unreachable-requires c =
    not_past c.args.policies.now.policies c.loop-position.position (sym c.policy.ensures ∙ ap option_copied c.in_default.is) (omega (arith, c.count-position-end.ensures.policies, c.loop-position-test.true))

pub loop-position-preserved : goal.loop-position-preserved
loop-position-preserved c =
    let ps = c.args.policies.now.policies in
    let i = c.loop-position.position in
    let p = c.in-Some.policy.now in
    let was = c.loop-position.invariant in
    let at : slice_get ps i ≡ Some p = sym c.policy.ensures ∙ ap option_copied c.in-Some.is in
    let here : slice_get ps c.loop-position.place.policy ≡ Some p = subst (λ (n : ℕ). slice_get ps n ≡ Some p) (sym was.at) at in
    let own = c.cut_faults.result.0.now in
    let warned = c.cut_warnings.result.0.now in
    let to = c.in_ok-append_policy.ensures.counted in
    record {
      apart = apart_next ps i p at was.apart;
      at = ap (λ (place : ReportPlace). place.policy) to ∙ ap (λ (n : ℕ). n + 1) was.at;
      left = λ settings s r.
          (cut-next settings s ps i p c.id-id.result.now (map fault_view c.loop-position.faults.now) (map fault_view own) (map fault_view c.cut_faults.result.1.now) c.loop-position.warnings.now warned c.cut_warnings.result.1.now
          at c.id-id.ensures was.apart (was.left settings s r) c.cut_faults.ensures.own c.cut_faults.ensures.others c.cut_warnings.ensures.own c.cut_warnings.ensures.others).2;
      part = λ settings s r.
          let cut = cut-next settings s ps i p c.id-id.result.now (map fault_view c.loop-position.faults.now) (map fault_view own) (map fault_view c.cut_faults.result.1.now) c.loop-position.warnings.now warned c.cut_warnings.result.1.now
          at c.id-id.ensures was.apart (was.left settings s r) c.cut_faults.ensures.own c.cut_faults.ensures.others c.cut_warnings.ensures.own c.cut_warnings.ensures.others in
          join-on settings s ps _ c.loop-position.place c.append_policy.new.self [] c.loop-position.text c.append_policy.new.text (was.part settings s r)
          (one settings s ps p c.loop-position.place c.append_policy.new.self (length own) (length warned) (map fault_view own) warned c.loop-position.text c.append_policy.new.text
          here (omega (arith, was.at, c.count-position-end.ensures.policies, c.loop-position-test.true)) cut.0 cut.1 c.in_ok-append_policy.ensures.told (sym (length-map own fault_view)) refl to);
    }

pub returns : goal.returns
returns c = λ settings s r.
    let ps = c.args.policies.now.policies in
    let part = c.loop-position.invariant.part settings s r in
    subst (IsReportText settings s ps) (sym c.into_text.ensures)
    (is-whole settings s ps c.loop-position.place [] c.loop-position.text c.append_totals.new.lines part
    (omega (arith, part.within, c.loop-position.invariant.at, c.count-position-end.ensures.policies, c.loop-position-test.false)) c.in_ok-append_totals.ensures)
