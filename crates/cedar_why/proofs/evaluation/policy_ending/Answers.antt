use Rattle.std.proofs.Common.{ap, ◌∙◌}
use Rattle.cedar_value.specs.World.{World}
use Rattle.cedar_ast_expressions.specs.Evaluation.{eval}
use Rattle.cedar_ast.specs.Condition.{condition_of}
use Rattle.cedar_code.specs.Machine.{outcome_of}
use Rattle.cedar_why.specs.Ending.{ending_at}
use Rattle.cedar_why.proofs.evaluation.policy_ending.Goals as goal

-- The code that is executed is that of the policy's condition.
pub returns : goal.returns
returns c p here =
    c.ending_at-ending.ensures
    ∙ (ap ending_at (c.in_ok-ended.ensures (condition_of p) (c.part.ensures p here).0)
    ∙ ap (λ (w : World). ending_at (outcome_of (eval (condition_of p) c.args.request.now w))) c.store.ensures)
