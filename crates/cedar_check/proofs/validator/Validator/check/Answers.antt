use Rattle.std.proofs.Common.{[], ◌∷◌, ◌++◌, cond, map, ap, ◌∙◌}
use Rattle.cedar_check_spec.specs.Private.Reporting.{faults_of_with, is_impossible_with}
use Rattle.cedar_check.specs.FaultView.{fault_view}
use Rattle.cedar_check.proofs.Policies.{more_faults, more_warnings}
use Rattle.cedar_check.proofs.validator.Validator.check.Goals as goal

pub returns-clause-faults : goal.returns-clause-faults
returns-clause-faults c = λ ps h.
    let old = map fault_view c.args.report.now.faults.items in
    more_faults c.args.settings c.args.self.now ps c.args.policy.now old (map fault_view c.check_next.new.report.faults.items)
    (c.in_ok-check_next.ensures.faults ∙ ap (λ s. old ++ faults_of_with c.args.settings s c.args.policy.now) c.self.view_is)
    h

pub returns-clause-warnings : goal.returns-clause-warnings
returns-clause-warnings c = λ ps h.
    let p = c.args.policy.now in
    let old = c.args.report.now.warnings.items in
    more_warnings c.args.settings c.args.self.now ps p old c.check_next.new.report.warnings.items
    (c.in_ok-check_next.ensures.warnings ∙ ap (λ s. old ++ cond (is_impossible_with c.args.settings s p) (p.id ∷ []) []) c.self.view_is)
    h
