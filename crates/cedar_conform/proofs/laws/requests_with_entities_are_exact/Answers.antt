use Rattle.cedar_conform.proofs.WithEntitiesLemmas.{one_request_with_entities, with_entities_have_no_fault}
use Rattle.cedar_conform.proofs.laws.requests_with_entities_are_exact.Goals as goal

pub returns : goal.returns
returns c = record { one = one_request_with_entities c.one_written_uid.ensures; no_fault = with_entities_have_no_fault c.one_written_uid.ensures }
