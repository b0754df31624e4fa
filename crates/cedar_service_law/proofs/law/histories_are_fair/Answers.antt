use Rattle.cedar_service_law.proofs.Laws.{every_history_is_fair}
use Rattle.cedar_service_law.proofs.law.histories_are_fair.Goals as goal

pub returns : goal.returns
returns c = every_history_is_fair c.execution_is_evaluation.ensures
