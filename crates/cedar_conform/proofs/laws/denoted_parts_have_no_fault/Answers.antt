use Rattle.cedar_conform.proofs.PartsLemmas.{no_parts_fault}
use Rattle.cedar_conform.proofs.laws.denoted_parts_have_no_fault.Goals as goal

pub returns : goal.returns
returns c = no_parts_fault
