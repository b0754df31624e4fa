use Rattle.cedar_ext_ip.proofs.RangeTest.{meaning}
use Rattle.cedar_ext_ip.proofs.ip.Ip.is_in_range.Goals as goal

pub returns-clause-meaning : goal.returns-clause-meaning
returns-clause-meaning c = meaning _ _ _ c.has_its_first_bits.ensures.gives c.has_its_first_bits.ensures.valid
