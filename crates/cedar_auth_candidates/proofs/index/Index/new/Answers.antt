use Rattle.cedar_auth_candidates.proofs.Entering.{index_of}
use Rattle.cedar_auth_candidates.proofs.index.Index.new.Goals as goal

pub returns : goal.returns
returns c = index_of c.args.policies.now.policies c.in_ok-tables.tables c.in_ok-tables.ensures
