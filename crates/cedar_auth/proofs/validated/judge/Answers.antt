use Rattle.std.proofs.Common.{sym, ◌∙◌}
use Rattle.std.proofs.lemmas.Bool.{eqb-true, eqb-false}
use Rattle.cedar_check.specs.FaultView.{fault_view}
use Rattle.cedar_auth.proofs.Validations.{validated, some_fault}
use Rattle.cedar_auth.proofs.validated.judge.Goals as goal

pub returns-clause-accepted : goal.returns-clause-accepted
returns-clause-accepted c =
    validated fault_view c.args.settings c.args.schema.now c.args.policies.now.policies c.in-Ok.judged.report.faults.items
    (c.typing_is_determined.ensures.accepted c.args.settings) c.in-Ok.ensures.faults
    (sym c.in-Ok.judged.report.faults.ok.0 ∙ eqb-true _ _ (sym c.if-not-is_empty.ensures))

pub returns-then-not-is_empty-clause-refused : goal.returns-then-not-is_empty-clause-refused
returns-then-not-is_empty-clause-refused c = record {
  faults = c.in-Ok.ensures.faults;
  warnings = c.in-Ok.ensures.warnings;
  some =
      some_fault fault_view c.args.settings c.args.schema.now c.args.policies.now.policies c.in-Ok.judged.report.faults.items
      (c.typing_is_determined.ensures.report c.args.settings) c.in-Ok.ensures.faults
      (λ e. eqb-false _ _ (sym c.if-not-is_empty.ensures) (c.in-Ok.judged.report.faults.ok.0 ∙ e));
}
