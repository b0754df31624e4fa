use Rattle.std.proofs.Common.{sym, ◌∙◌}
use Rattle.cedar_machine.proofs.Bounds.{compiled_few, ends_evaluated}
use Rattle.cedar_machine.proofs.machine.run.Goals as goal

pub returns-clause-evaluates : goal.returns-clause-evaluates
returns-clause-evaluates g c = λ e same.
    let evaluated = ends_evaluated c.execution_is_evaluation.ensures e c.args.code.now.instructions _ _ _ _ _ c.in_ok-end.ensures.ended c.in_ok-end.ensures.steps same in
    cc (sym c.in_ok-outcome.ensures.outcome ∙ evaluated)

pub returns-clause-few : goal.returns-clause-few
returns-clause-few g c =
    compiled_few c.execution_is_evaluation.ensures _ _ _ _ c.height.ensures.compiled _ _ c.in_ok-end.ensures.steps
