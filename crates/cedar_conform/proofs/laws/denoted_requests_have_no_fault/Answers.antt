use Rattle.cedar_conform.proofs.RequestLemmas.{no_line_fault}
use Rattle.cedar_conform.proofs.laws.denoted_requests_have_no_fault.Goals as goal

pub returns : goal.returns
returns c = no_line_fault c.one_written_uid.ensures
