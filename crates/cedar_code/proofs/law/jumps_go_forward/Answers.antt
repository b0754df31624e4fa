use Rattle.cedar_code.proofs.Forward.{jumps_forward}
use Rattle.cedar_code.proofs.law.jumps_go_forward.Goals as goal

pub returns : goal.returns
returns c = λ e. jumps_forward e
