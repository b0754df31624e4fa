use Rattle.cedar_code.proofs.Runs.{runs_as_evaluated}
use Rattle.cedar_code.proofs.law.execution_is_evaluation.Goals as goal

pub returns : goal.returns
returns c = λ e q w. runs_as_evaluated e q w
