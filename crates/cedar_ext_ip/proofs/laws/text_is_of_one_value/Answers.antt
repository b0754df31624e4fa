use Rattle.cedar_ext_ip.proofs.IpTexts.{one_value}
use Rattle.cedar_ext_ip.proofs.laws.text_is_of_one_value.Goals as goal

pub returns : goal.returns
returns c = one_value
