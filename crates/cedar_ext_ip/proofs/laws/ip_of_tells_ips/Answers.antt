use Rattle.cedar_ext_ip.proofs.IpTexts.{ip_of-IsIp, IsIp-ip_of}
use Rattle.cedar_ext_ip.proofs.laws.ip_of_tells_ips.Goals as goal

pub returns : goal.returns
returns c = λ text ip. (IsIp-ip_of text ip, ip_of-IsIp text ip)
