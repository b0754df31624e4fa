use Rattle.cedar_conform.proofs.RequestLemmas.{one_line_request}
use Rattle.cedar_conform.proofs.laws.one_request.Goals as goal

pub returns : goal.returns
returns c = one_line_request c.one_written_uid.ensures
