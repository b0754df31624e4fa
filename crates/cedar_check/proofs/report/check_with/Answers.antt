use Rattle.std.proofs.Common.{[], ◌∷◌, ◌++◌, map, take, arith, ap, sym, subst, ◌∙◌}
use Rattle.std.proofs.lemmas.List.{take_all}
use Rattle.std.specs.Prelude.{option_copied}
use Rattle.cedar_check.specs.FaultView.{fault_view}
use Rattle.cedar_check_spec.specs.Reports.{AreFaultsWith, AreWarningsWith, of_none, on_none}
use Rattle.cedar_check.proofs.Policies.{not_past, take_got}
use Rattle.cedar_check.proofs.report.check_with.Goals as goal

pub unreachable-requires : goal.unreachable-requires
unreachable-requires c = not_past c.args.policies.now.policies c.loop-position.position (sym c.policy.ensures ∙ ap option_copied c.in_default.is) (omega (arith, c.count-position-end.ensures.policies, c.loop-position-test.true))

pub loop-position-init : goal.loop-position-init
loop-position-init c = record {
  faults = subst (λ fs. AreFaultsWith c.args.settings c.args.schema.now [] (map fault_view fs)) (sym c.new-report.ensures.faults) of_none;
  warnings = subst (AreWarningsWith c.args.settings c.args.schema.now []) (sym c.new-report.ensures.warnings) on_none;
}

pub loop-position-preserved : goal.loop-position-preserved
loop-position-preserved c =
    let settings = c.args.settings in
    let s = c.args.schema.now in
    let ps = c.args.policies.now.policies in
    let i = c.loop-position.position in
    let more = sym (take_got ps i c.in-Some.policy.now (sym c.policy.ensures ∙ ap option_copied c.in-Some.is)) in
    record {
      faults =
          subst (λ qs. AreFaultsWith settings s qs (map fault_view c.check.new.report.faults.items)) more
          (subst (λ t. AreFaultsWith settings t (take i ps ++ c.in-Some.policy.now ∷ []) (map fault_view c.check.new.report.faults.items)) c.in_ok-validator.ensures
          (c.in_ok-check.ensures.faults (take i ps) (subst (λ t. AreFaultsWith settings t (take i ps) (map fault_view c.loop-position.report.faults.items)) (sym c.in_ok-validator.ensures) c.loop-position.invariant.faults)));
      warnings =
          subst (λ qs. AreWarningsWith settings s qs c.check.new.report.warnings.items) more
          (subst (λ t. AreWarningsWith settings t (take i ps ++ c.in-Some.policy.now ∷ []) c.check.new.report.warnings.items) c.in_ok-validator.ensures
          (c.in_ok-check.ensures.warnings (take i ps) (subst (λ t. AreWarningsWith settings t (take i ps) c.loop-position.report.warnings.items) (sym c.in_ok-validator.ensures) c.loop-position.invariant.warnings)));
    }

pub returns-clause-faults : goal.returns-clause-faults
returns-clause-faults c =
    subst (λ qs. AreFaultsWith c.args.settings c.args.schema.now qs (map fault_view c.loop-position.report.faults.items))
    (take_all c.loop-position.position c.args.policies.now.policies (omega (arith, c.count-position-end.ensures.policies, c.loop-position-test.false)))
    c.loop-position.invariant.faults

pub returns-clause-warnings : goal.returns-clause-warnings
returns-clause-warnings c =
    subst (λ qs. AreWarningsWith c.args.settings c.args.schema.now qs c.loop-position.report.warnings.items)
    (take_all c.loop-position.position c.args.policies.now.policies (omega (arith, c.count-position-end.ensures.policies, c.loop-position-test.false)))
    c.loop-position.invariant.warnings
