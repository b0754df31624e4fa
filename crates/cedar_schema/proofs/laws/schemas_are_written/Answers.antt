use Rattle.cedar_schema.proofs.WrittenLemmas.{types_written, actions_written, names_kept, uids_kept}
use Rattle.cedar_schema.proofs.laws.schemas_are_written.Goals as goal

pub returns : goal.returns
returns c = record { types = types_written; actions = actions_written; names = names_kept; uids = uids_kept }
