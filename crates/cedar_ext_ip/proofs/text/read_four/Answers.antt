use Rattle.cedar_ext_ip.proofs.Fours.{four_found, four_none}
use Rattle.cedar_ext_ip.proofs.text.read_four.Goals as goal

pub returns-in-Ok : goal.returns-in-Ok
returns-in-Ok c = four_found _ _ _ _ c.in-Ok.ensures c.octets.ensures c.of_octets.ensures

pub returns-in-Err : goal.returns-in-Err
returns-in-Err c = four_none _ c.in-Err.ensures
