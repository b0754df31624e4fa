use Rattle.std.proofs.Common.{◌∙◌, ap}
use Rattle.cedar_ext_ip.specs.IpOf.{ip_of}
use Rattle.cedar_ext_ip.proofs.IpTexts.{some_reads, none_reads}
use Rattle.cedar_ext_ip.proofs.ip.Ip.read.Goals as goal

pub returns-clause-some : goal.returns-clause-some
returns-clause-some c = some_reads _ _ (c.read_bytes.ensures ∙ ap ip_of c.as_bytes.ensures.value)

pub returns-clause-none : goal.returns-clause-none
returns-clause-none c = none_reads _ _ (c.read_bytes.ensures ∙ ap ip_of c.as_bytes.ensures.value)
