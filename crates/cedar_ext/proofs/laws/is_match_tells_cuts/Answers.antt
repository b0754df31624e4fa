use Rattle.cedar_ext.proofs.Tested.{is_match-Decides}
use Rattle.cedar_ext.proofs.laws.is_match_tells_cuts.Goals as goal

pub returns : goal.returns
returns c = is_match-Decides
