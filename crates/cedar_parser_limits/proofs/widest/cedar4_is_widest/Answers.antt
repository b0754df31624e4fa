use Rattle.cedar_parser_limits.proofs.Widening.{within_widest}
use Rattle.cedar_parser_limits.proofs.widest.cedar4_is_widest.Goals as goal

pub returns : goal.returns
returns c = within_widest
