use Rattle.cedar_check_law.proofs.Candidates.{candidates_are_enough}
use Rattle.cedar_check_law.proofs.LeftOut.{false_ones_may_go}
use Rattle.cedar_check_law.proofs.candidates_are_enough.Goals as goal

pub returns : goal.returns
returns c = record { others = candidates_are_enough; response = false_ones_may_go }
