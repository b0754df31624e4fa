use Rattle.cedar_ext_ip.proofs.RangeTest.{is_within-tells}
use Rattle.cedar_ext_ip.proofs.laws.is_within_tells_ranges.Goals as goal

pub returns : goal.returns
returns c = λ ip range _ valid. is_within-tells ip range valid
