use Rattle.cedar_auth_candidates.specs.Private.Kept.{AreEntered}
use Rattle.cedar_auth_candidates.proofs.tables.Tables.new.Given as goal

abbrev pub invariant-loop-position : goal.invariant-loop-position
invariant-loop-position l = AreEntered l.policies.policies l.tables l.position
