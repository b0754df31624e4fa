use Rattle.std.proofs.Common.{take}
use Rattle.cedar_auth_candidates.specs.Private.Sifting.{Holds, SiftedBy}
use Rattle.cedar_auth_candidates.proofs.sifting.sifted.Given as goal

abbrev pub invariant-loop-position : goal.invariant-loop-position
invariant-loop-position l = SiftedBy l.policies.policies (Holds l.schema l.question) (take l.position-index l.positions) l.kept.items
