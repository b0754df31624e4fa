use Rattle.cedar_service_law.proofs.Costs.{run_ends}
use Rattle.cedar_service_law.proofs.law.runs_end_as_evaluated.Goals as goal

pub returns : goal.returns
returns c = λ p q w n o s. run_ends c.execution_is_evaluation.ensures q w p n o s
